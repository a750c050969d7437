-- The marks of an instruction, read one by one into a set.
use Rattle.std.proofs.Common.{◌≡◌, ℕ, ◌+◌, Bool, true, false, cond, not, ◌&&◌, ◌||◌, eqb, ltb, List, [], ◌∷◌, Some, None, codes, Option, sym, refl, ap, ◌∙◌, subst, ap₂, ⊎_elim, add-zero, add_assoc, zero-add, arith}
use lib.Bits.{bit_and, bit_or, and_zero_l, and_le_l, and_le_r, or_add_and, or_disjoint}
use Rattle.std.proofs.lemmas.Bool.{false≢true, eqb-true, ltb-false, or_cases, and_parts, and_from}
use Rattle.std.proofs.lemmas.Bool.Decides.{nat_tests}
use Rattle.vocabulary.specs.declared.marks.Marks.{Marks}
use Rattle.vocabulary.specs.declared.operation.Operation.{Operation}
use Rattle.vocabulary.specs.Names.{same_word, mark_named}
use Rattle.domain.proofs.Sets.{and_or}
use Rattle.semantics.specs.Operations.{facts}
use Rattle.semantics.specs.Programs.{all, has}
use Rattle.scan.specs.Pieces.{Bytes}
use Rattle.text.specs.Words.{any}
use Rattle.text.specs.Forms.{mark_number, mark_before, leading_marks, not_a_mark, behind_marks}
use Rattle.text.specs.Instructions.{repeated, bad_marks, sum}
use Rattle.text.proofs.Tests.{no_some}
use Rattle.reader.specs.Marks.{is_mark, bears, Members, marks_of, next_mark, after_mark}

-- there are four marks
mark_cases : (P : ℕ → Type 0) → P 1 → P 2 → P 4 → P 8 → (x : ℕ) → is_mark x ≡ true → P x
mark_cases P a b c d x e =
    ⊎_elim (λ e. at 1 a e)
    (λ e. ⊎_elim (λ e. at 2 b e)
    (λ e. ⊎_elim (λ e. at 4 c e)
    (λ e. ⊎_elim (λ e. at 8 d e) (λ e. absurd (false≢true e)) (or_cases (eqb x 8) false e))
    (or_cases (eqb x 4) _ e))
    (or_cases (eqb x 2) _ e))
    (or_cases (eqb x 1) _ e)
  where
    at : (k : ℕ) → P k → eqb x k ≡ true → P x
    at k p e = subst P (sym (eqb-true x k e)) p

-- what a word names is one of them
named_is_mark : (w : Bytes) (m : Marks) → mark_named w ≡ Some m → is_mark m.bits ≡ true
named_is_mark w m e = go (same_word w (codes "nuw")) (same_word w (codes "nsw")) (same_word w (codes "exact")) (same_word w (codes "range")) e
  where
    is : (x : ℕ) → is_mark x ≡ true → ◌≡◌ {A = Option Marks} (Some (record { bits = x })) (Some m) → is_mark m.bits ≡ true
    is x known e = let same : x ≡ m.bits = cc in ap is_mark (sym same) ∙ known

    go : (a b c d : Bool) → cond a (Some (record { bits = 1 })) (cond b (Some (record { bits = 2 })) (cond c (Some (record { bits = 4 })) (cond d (Some (record { bits = 8 })) None))) ≡ Some m → is_mark m.bits ≡ true
    go true b c d e = is 1 refl e
    go false true c d e = is 2 refl e
    go false false true d e = is 4 refl e
    go false false false true e = is 8 refl e
    go false false false false e = absurd (no_some (sym e))

leading_are_marks : (ws : List Bytes) → all is_mark (leading_marks ws) ≡ true
leading_are_marks [] = refl
leading_are_marks (w ∷ ws) = go (mark_named w) refl (leading_are_marks ws)
  where
    go : (o : Option Marks) → mark_named w ≡ o → all is_mark (leading_marks ws) ≡ true → all is_mark (mark_before (mark_number o) (leading_marks ws)) ≡ true
    go (Some m) e later = and_from _ _ (named_is_mark w m e) later
    go None e later = refl

-- two marks share a bit only where they are one
abbrev Meet : ℕ → ℕ → Type 0
Meet x y = ltb 0 (bit_and x y) ≡ eqb x y

marks_meet : (x y : ℕ) → is_mark x ≡ true → is_mark y ≡ true → Meet x y
marks_meet x y ex ey = mark_cases (λ k. Meet k y) (by 1 refl refl refl refl) (by 2 refl refl refl refl) (by 4 refl refl refl refl) (by 8 refl refl refl refl) x ex
  where
    by : (k : ℕ) → Meet k 1 → Meet k 2 → Meet k 4 → Meet k 8 → Meet k y
    by k a b c d = mark_cases (Meet k) a b c d y ey

-- a set with one more mark
bears_more : (set x y : ℕ) → is_mark x ≡ true → is_mark y ≡ true → bears (bit_or set x) y ≡ (bears set y || eqb x y)
bears_more set x y ex ey = ap (ltb 0) (and_or set x y) ∙ some (bit_and set y) (bit_and x y) ∙ ap (λ t. bears set y || t) (marks_meet x y ex ey)
  where
    some : (a b : ℕ) → ltb 0 (bit_or a b) ≡ (ltb 0 a || ltb 0 b)
    some a b = let s = or_add_and a b in let l = and_le_l a b in let r = and_le_r a b in grind (arith, nat_tests)

any_more : (set x : ℕ) (ys : List ℕ) → is_mark x ≡ true → all is_mark ys ≡ true → any (bears (bit_or set x)) ys ≡ (any (bears set) ys || has x ys)
any_more set x [] ex e = refl
any_more set x (y ∷ ys) ex e =
    let (here, later) = and_parts (is_mark y) (all is_mark ys) e in
    ap₂ ◌||◌ (bears_more set x y ex here) (any_more set x ys ex later) ∙ swap (bears set y) (eqb x y) (any (bears set) ys) (has x ys)
  where
    swap : (a b c d : Bool) → (a || b || (c || d)) ≡ (a || c || (b || d))
    swap true b c d = refl
    swap false true true d = refl
    swap false true false d = refl
    swap false false c d = refl

-- whether marks are misused where these are permitted, after those of a set, which were misused or not
abbrev misused_after : ℕ → ℕ → Bool → List ℕ → Bool
misused_after permitted set before xs = before || any (bears set) xs || (any (λ x. not (bears permitted x)) xs || repeated xs)

misused_more : (permitted set : ℕ) (before : Bool) (x : ℕ) (xs : List ℕ) → is_mark x ≡ true → all is_mark xs ≡ true → misused_after permitted (bit_or set x) (before || (bears set x || not (bears permitted x))) xs ≡ misused_after permitted set before (x ∷ xs)
misused_more permitted set before x xs ex e =
    ap (λ t. (before || (bears set x || not (bears permitted x))) || t || (any (λ x. not (bears permitted x)) xs || repeated xs)) (any_more set x xs ex e)
    ∙ regroup before (bears set x) (any (bears set) xs) (not (bears permitted x)) (has x xs) (any (λ x. not (bears permitted x)) xs) (repeated xs)
  where
    regroup : (m s a n h p r : Bool) → (m || (s || n) || (a || h) || (p || r)) ≡ (m || (s || a) || (n || p || (h || r)))
    regroup true s a n h p r = refl
    regroup false true a n h p r = refl
    regroup false false true true h p r = refl
    regroup false false true false h p r = refl
    regroup false false false true h p r = refl
    regroup false false false false true true r = refl
    regroup false false false false true false r = refl
    regroup false false false false false p r = refl

-- after no mark, those are misused that the rule of texts calls so
none_before : (xs : List ℕ) → any (bears 0) xs ≡ false
none_before [] = refl
none_before (x ∷ xs) = ap₂ ◌||◌ (ap (ltb 0) (and_zero_l x)) (none_before xs)

not_permitted : (permitted : ℕ) (ps xs : List ℕ) → Members permitted ps → all is_mark xs ≡ true → any (λ x. not (bears permitted x)) xs ≡ any (λ x. not (has x ps)) xs
not_permitted permitted ps [] h e = refl
not_permitted permitted ps (x ∷ xs) h e = let (here, later) = and_parts (is_mark x) (all is_mark xs) e in ap₂ (λ a b. not a || b) (h x here) (not_permitted permitted ps xs h later)

misused_is_bad : (op : Operation) (permitted : ℕ) (xs : List ℕ) → Members permitted (facts op).permitted → all is_mark xs ≡ true → misused_after permitted 0 false xs ≡ bad_marks op xs
misused_is_bad op permitted xs h e = ap₂ (λ a b. a || (b || repeated xs)) (none_before xs) (not_permitted permitted (facts op).permitted xs h e)

-- a mark that is not in a set is added to it
set_more : (set x : ℕ) → bears set x ≡ false → bit_or set x ≡ set + x
set_more set x e = or_disjoint set x (let h = ltb-false 0 (bit_and set x) e in omega arith)

-- a set, or none, with one more mark, where that is permitted and not in the set
abbrev pub with_mark : ℕ → Option Marks → Marks → Option Marks
with_mark permitted (Some set) m = cond (bears permitted m.bits && not (bears set.bits m.bits)) (Some (record { bits = bit_or set.bits m.bits })) None
with_mark permitted None m = None

-- the marks of a list, one after another
abbrev pub with_marks : ℕ → Option Marks → List ℕ → Option Marks
with_marks permitted o [] = o
with_marks permitted o (x ∷ xs) = with_marks permitted (with_mark permitted o (record { bits = x })) xs

none_stays : (permitted : ℕ) (xs : List ℕ) → with_marks permitted None xs ≡ None
none_stays permitted [] = refl
none_stays permitted (x ∷ xs) = none_stays permitted xs

with_marks_is : (permitted : ℕ) (set : Marks) (xs : List ℕ) → all is_mark xs ≡ true → with_marks permitted (Some set) xs ≡ cond (misused_after permitted set.bits false xs) None (Some (record { bits = set.bits + sum xs }))
with_marks_is permitted set [] e = ap (λ n. Some (record { bits = n })) (sym (add-zero set.bits))
with_marks_is permitted set (x ∷ xs) e =
    let (here, later) = and_parts (is_mark x) (all is_mark xs) e in
    go (bears permitted x) (bears set.bits x) refl (with_marks_is permitted (record { bits = bit_or set.bits x }) xs later) (misused_more permitted set.bits false x xs here later)
  where
    more : Marks
    more = record { bits = bit_or set.bits x }

    go : (p b : Bool) → bears set.bits x ≡ b → with_marks permitted (Some more) xs ≡ cond (misused_after permitted more.bits false xs) None (Some (record { bits = more.bits + sum xs })) → misused_after permitted more.bits (false || (b || not p)) xs ≡ misused_after permitted set.bits false (x ∷ xs)
        → with_marks permitted (cond (p && not b) (Some more) None) xs ≡ cond (misused_after permitted set.bits false (x ∷ xs)) None (Some (record { bits = set.bits + (x + sum xs) }))
    go true false apart rest same =
        rest
        ∙ ap (λ n. cond (misused_after permitted more.bits false xs) None (Some (record { bits = n }))) (ap (λ n. n + sum xs) (set_more set.bits x apart) ∙ add_assoc set.bits x (sum xs))
        ∙ ap (λ t. cond t None (Some (record { bits = set.bits + (x + sum xs) }))) same
    go true true apart rest same = none_stays permitted xs ∙ ap (λ t. cond t None (Some (record { bits = set.bits + (x + sum xs) }))) same
    go false true apart rest same = none_stays permitted xs ∙ ap (λ t. cond t None (Some (record { bits = set.bits + (x + sum xs) }))) same
    go false false apart rest same = none_stays permitted xs ∙ ap (λ t. cond t None (Some (record { bits = set.bits + (x + sum xs) }))) same

-- what is left tells of all marks
pub record Marked (permitted : ℕ) (so_far : Option Marks) (ws all : List Bytes) : Type 0 where
  pub marks : with_marks permitted so_far (leading_marks ws) ≡ with_marks permitted (Some (record { bits = 0 })) (leading_marks all)
  pub after : behind_marks ws ≡ behind_marks all

pub marked_more : (permitted : ℕ) (so_far : Option Marks) (m : Marks) (ws rest all : List Bytes) → Some m ≡ next_mark ws → rest ≡ after_mark ws → Marked permitted so_far ws all → Marked permitted (with_mark permitted so_far m) rest all
marked_more permitted so_far m [] rest all e r h = absurd (no_some e)
marked_more permitted so_far m (w ∷ ws) rest all e r h =
    let goes : rest ≡ ws = r ∙ ap (λ o. not_a_mark (mark_number o) (w ∷ ws) ws) (sym e) in
    record {
      marks = ap (λ l. with_marks permitted (with_mark permitted so_far m) (leading_marks l)) goes ∙ ap (λ o. with_marks permitted so_far (mark_before (mark_number o) (leading_marks ws))) e ∙ h.marks;
      after = ap behind_marks goes ∙ ap (λ o. not_a_mark (mark_number o) (w ∷ ws) (behind_marks ws)) e ∙ h.after;
    }

-- where no mark comes next, all are read
pub marked_all : (op : Operation) (permitted : ℕ) (so_far : Option Marks) (ws rest all : List Bytes) → Members permitted (facts op).permitted → None ≡ next_mark ws → rest ≡ after_mark ws → Marked permitted so_far ws all → (so_far ≡ marks_of op (leading_marks all)) × (rest ≡ behind_marks all)
marked_all op permitted so_far ws rest all p e r h =
    let (none, stays) = ends ws e in (
      ap (with_marks permitted so_far) (sym none) ∙ h.marks ∙ with_marks_is permitted (record { bits = 0 }) (leading_marks all) (leading_are_marks all)
          ∙ (λ j. cond (misused_is_bad op permitted (leading_marks all) p (leading_are_marks all) j) None (Some (record { bits = zero-add (sum (leading_marks all)) j }))),
      r ∙ stays ∙ h.after,
    )
  where
    ends : (ws : List Bytes) → None ≡ next_mark ws → (leading_marks ws ≡ []) × (after_mark ws ≡ behind_marks ws)
    ends [] e = (refl, refl)
    ends (w ∷ ws) e = (ap (λ o. mark_before (mark_number o) (leading_marks ws)) (sym e), ap (λ o. not_a_mark (mark_number o) (w ∷ ws) ws) (sym e) ∙ ap (λ o. not_a_mark (mark_number o) (w ∷ ws) (behind_marks ws)) e)
