-- Each operation as it is written, and the marks on it. Assumes nothing.
use Rattle.std.proofs.Common.{◌≡◌, ℕ, zero, suc, ◌+◌, ◌<◌, ◌≤◌, Bool, true, false, cond, not, ◌||◌, T, eqb, ◌⊎◌, List, [], ◌∷◌, length, Some, sym, refl, subst, inl, inr, ⊎_elim, arith, lit≤}
use Rattle.std.proofs.lemmas.Bool.{or_parts, eqb-false}
use Rattle.vocabulary.specs.declared.operation.Operation.{Operation}
use Rattle.vocabulary.specs.declared.operation.Operation.TheVariants.{Add, Sub, Mul, Shl, Lshr, Ashr, Udiv, Urem, Sdiv, Srem, And, Or, Xor, Eq, Ne, Ult, Ule, Slt, Sle, Copy, Freeze, Select}
use Rattle.semantics.specs.Programs.{All, has}
use Rattle.semantics.proofs.Members.{in_cases}
use Rattle.semantics.specs.Cases.{keep}
use Rattle.text.specs.Forms.{mark}
use Rattle.text.specs.Words.{any}
use Rattle.vocabulary.specs.Names.{operation_named, name_of}
use Rattle.semantics.specs.Operations.{facts}
use Rattle.text.specs.Instructions.{sum, repeated, bad_marks}
use Rattle.text.specs.Neat.{in_set, written_marks}
use Rattle.text.specs.Writing.{mark_word}
use Rattle.text.proofs.Tests.{not_fails}
use Rattle.text.proofs.Spaced.{Good}

-- a mark is written by a word and read back
abbrev pub MarkFine : ℕ → Type 0
MarkFine x = Good (mark_word x) × (mark (mark_word x) ≡ Some x)

pub record OpFine (op : Operation) : Type 0 where
  pub word : Good (name_of op)
  pub known : operation_named (name_of op) ≡ Some op
  pub few : length (facts op).permitted ≤ 2
  pub marks : All MarkFine (facts op).permitted
  pub apart : (t : ℕ → Bool) → bad_marks op (keep t (facts op).permitted) ≡ false

two_marks : All MarkFine (1 ∷ 2 ∷ [])
two_marks = ((record { some = lit≤ tt; short = lit≤ tt; solid_bytes = refl }, refl), ((record { some = lit≤ tt; short = lit≤ tt; solid_bytes = refl }, refl), tt))

one_marks : All MarkFine (4 ∷ [])
one_marks = ((record { some = lit≤ tt; short = lit≤ tt; solid_bytes = refl }, refl), tt)

none_marks : All MarkFine []
none_marks = tt

-- marks that may not stand there, or stand twice
abbrev Bad : List ℕ → List ℕ → Bool
Bad permitted ms = any (λ x. not (has x permitted)) ms || repeated ms

two_apart : (t : ℕ → Bool) → Bad (1 ∷ 2 ∷ []) (keep t (1 ∷ 2 ∷ [])) ≡ false
two_apart t = go (t 1) (t 2)
  where
    go : (b c : Bool) → Bad (1 ∷ 2 ∷ []) (cond b (1 ∷ cond c (2 ∷ []) []) (cond c (2 ∷ []) [])) ≡ false
    go true true = refl
    go true false = refl
    go false true = refl
    go false false = refl

one_apart : (t : ℕ → Bool) → Bad (4 ∷ []) (keep t (4 ∷ [])) ≡ false
one_apart t = go (t 4)
  where
    go : (b : Bool) → Bad (4 ∷ []) (cond b (4 ∷ []) []) ≡ false
    go true = refl
    go false = refl

none_apart : (t : ℕ → Bool) → Bad [] (keep t []) ≡ false
none_apart t = refl

pub op_fine : (op : Operation) → OpFine op
unfolding operation_named
op_fine Add = record { word = record { some = lit≤ tt; short = lit≤ tt; solid_bytes = refl }; known = refl; few = lit≤ tt; marks = two_marks; apart = two_apart }
op_fine Sub = record { word = record { some = lit≤ tt; short = lit≤ tt; solid_bytes = refl }; known = refl; few = lit≤ tt; marks = two_marks; apart = two_apart }
op_fine Mul = record { word = record { some = lit≤ tt; short = lit≤ tt; solid_bytes = refl }; known = refl; few = lit≤ tt; marks = two_marks; apart = two_apart }
op_fine Shl = record { word = record { some = lit≤ tt; short = lit≤ tt; solid_bytes = refl }; known = refl; few = lit≤ tt; marks = two_marks; apart = two_apart }
op_fine Lshr = record { word = record { some = lit≤ tt; short = lit≤ tt; solid_bytes = refl }; known = refl; few = lit≤ tt; marks = one_marks; apart = one_apart }
op_fine Ashr = record { word = record { some = lit≤ tt; short = lit≤ tt; solid_bytes = refl }; known = refl; few = lit≤ tt; marks = one_marks; apart = one_apart }
op_fine Udiv = record { word = record { some = lit≤ tt; short = lit≤ tt; solid_bytes = refl }; known = refl; few = lit≤ tt; marks = one_marks; apart = one_apart }
op_fine Urem = record { word = record { some = lit≤ tt; short = lit≤ tt; solid_bytes = refl }; known = refl; few = lit≤ tt; marks = none_marks; apart = none_apart }
op_fine Sdiv = record { word = record { some = lit≤ tt; short = lit≤ tt; solid_bytes = refl }; known = refl; few = lit≤ tt; marks = one_marks; apart = one_apart }
op_fine Srem = record { word = record { some = lit≤ tt; short = lit≤ tt; solid_bytes = refl }; known = refl; few = lit≤ tt; marks = none_marks; apart = none_apart }
op_fine And = record { word = record { some = lit≤ tt; short = lit≤ tt; solid_bytes = refl }; known = refl; few = lit≤ tt; marks = none_marks; apart = none_apart }
op_fine Or = record { word = record { some = lit≤ tt; short = lit≤ tt; solid_bytes = refl }; known = refl; few = lit≤ tt; marks = none_marks; apart = none_apart }
op_fine Xor = record { word = record { some = lit≤ tt; short = lit≤ tt; solid_bytes = refl }; known = refl; few = lit≤ tt; marks = none_marks; apart = none_apart }
op_fine Eq = record { word = record { some = lit≤ tt; short = lit≤ tt; solid_bytes = refl }; known = refl; few = lit≤ tt; marks = none_marks; apart = none_apart }
op_fine Ne = record { word = record { some = lit≤ tt; short = lit≤ tt; solid_bytes = refl }; known = refl; few = lit≤ tt; marks = none_marks; apart = none_apart }
op_fine Ult = record { word = record { some = lit≤ tt; short = lit≤ tt; solid_bytes = refl }; known = refl; few = lit≤ tt; marks = none_marks; apart = none_apart }
op_fine Ule = record { word = record { some = lit≤ tt; short = lit≤ tt; solid_bytes = refl }; known = refl; few = lit≤ tt; marks = none_marks; apart = none_apart }
op_fine Slt = record { word = record { some = lit≤ tt; short = lit≤ tt; solid_bytes = refl }; known = refl; few = lit≤ tt; marks = none_marks; apart = none_apart }
op_fine Sle = record { word = record { some = lit≤ tt; short = lit≤ tt; solid_bytes = refl }; known = refl; few = lit≤ tt; marks = none_marks; apart = none_apart }
op_fine Copy = record { word = record { some = lit≤ tt; short = lit≤ tt; solid_bytes = refl }; known = refl; few = lit≤ tt; marks = none_marks; apart = none_apart }
op_fine Freeze = record { word = record { some = lit≤ tt; short = lit≤ tt; solid_bytes = refl }; known = refl; few = lit≤ tt; marks = none_marks; apart = none_apart }
op_fine Select = record { word = record { some = lit≤ tt; short = lit≤ tt; solid_bytes = refl }; known = refl; few = lit≤ tt; marks = none_marks; apart = none_apart }

-- the first mark may stand there, the others too, and it is not among them
bad_parts : (permitted : List ℕ) (x : ℕ) (ms : List ℕ) → Bad permitted (x ∷ ms) ≡ false → T (has x permitted) × (Bad permitted ms ≡ false) × (has x ms ≡ false)
bad_parts permitted x ms e =
    let (a, b) = or_parts (any (λ x. not (has x permitted)) (x ∷ ms)) (repeated (x ∷ ms)) e in
    let (c, d) = or_parts (not (has x permitted)) (any (λ x. not (has x permitted)) ms) a in
    let (f, g) = or_parts (has x ms) (repeated ms) b in
    (not_fails (has x permitted) c, rw (d, g), f)

one_or_two : (x : ℕ) → T (has x (1 ∷ 2 ∷ [])) → (x ≡ 1) ⊎ (x ≡ 2)
one_or_two x h = ⊎_elim inl (λ h. ⊎_elim inr (λ h. absurd h) (in_cases x 2 [] h)) (in_cases x 1 (2 ∷ []) h)

apart_first : (x y : ℕ) (ms : List ℕ) → has x (y ∷ ms) ≡ false → x ≡ y → ⊥
apart_first x y ms e = eqb-false x y (or_parts (eqb x y) (has x ms) e).0

-- the sums of marks that may stand on an operation
two_sums : (ms : List ℕ) → Bad (1 ∷ 2 ∷ []) ms ≡ false → sum ms < 4
two_sums [] e = omega arith
two_sums (x ∷ []) e = let a = one_or_two x (bad_parts (1 ∷ 2 ∷ []) x [] e).0 in omega arith
two_sums (x ∷ y ∷ []) e =
    let (a, rest, n) = bad_parts (1 ∷ 2 ∷ []) x (y ∷ []) e in
    let p = one_or_two x a in
    let q = one_or_two y (bad_parts (1 ∷ 2 ∷ []) y [] rest).0 in
    let d = apart_first x y [] n in
    omega arith
two_sums (x ∷ y ∷ z ∷ ms) e =
    let (a, rest, n) = bad_parts (1 ∷ 2 ∷ []) x (y ∷ z ∷ ms) e in
    let (b, more, k) = bad_parts (1 ∷ 2 ∷ []) y (z ∷ ms) rest in
    let p = one_or_two x a in
    let q = one_or_two y b in
    let r = one_or_two z (bad_parts (1 ∷ 2 ∷ []) z ms more).0 in
    let d = apart_first x y (z ∷ ms) n in
    let f = apart_first y z ms k in
    let g = apart_first x z ms (or_parts (eqb x y) (has x (z ∷ ms)) n).1 in
    absurd (omega arith)

four : (x : ℕ) → T (has x (4 ∷ [])) → x ≡ 4
four x h = ⊎_elim (λ e. e) (λ h. absurd h) (in_cases x 4 [] h)

one_sums : (ms : List ℕ) → Bad (4 ∷ []) ms ≡ false → (sum ms ≡ 0) ⊎ (sum ms ≡ 4)
one_sums [] e = inl refl
one_sums (x ∷ []) e = let a = four x (bad_parts (4 ∷ []) x [] e).0 in inr (omega arith)
one_sums (x ∷ y ∷ ms) e =
    let (a, rest, n) = bad_parts (4 ∷ []) x (y ∷ ms) e in
    let p = four x a in
    let q = four y (bad_parts (4 ∷ []) y ms rest).0 in
    let d = apart_first x y ms n in
    absurd (omega arith)

none_sums : (ms : List ℕ) → Bad [] ms ≡ false → sum ms ≡ 0
none_sums [] e = refl
none_sums (x ∷ ms) e = absurd (bad_parts [] x ms e).0

-- a set of marks is the unwritten and the written ones
abbrev Back : List ℕ → ℕ → ℕ → Type 0
Back permitted unwritten s = unwritten + sum (keep (in_set (unwritten + s)) permitted) ≡ unwritten + s

by_four : (P : ℕ → Type 0) → P 0 → P 1 → P 2 → P 3 → (n : ℕ) → n < 4 → P n
by_four P a b c d zero h = a
by_four P a b c d (suc zero) h = b
by_four P a b c d (suc (suc zero)) h = c
by_four P a b c d (suc (suc (suc zero))) h = d
by_four P a b c d (suc (suc (suc (suc n)))) h = absurd (omega arith)

two_back_0 : (ms : List ℕ) → Bad (1 ∷ 2 ∷ []) ms ≡ false → Back (1 ∷ 2 ∷ []) 0 (sum ms)
two_back_0 ms e = by_four (Back (1 ∷ 2 ∷ []) 0) refl refl refl refl (sum ms) (two_sums ms e)

two_back_8 : (ms : List ℕ) → Bad (1 ∷ 2 ∷ []) ms ≡ false → Back (1 ∷ 2 ∷ []) 8 (sum ms)
two_back_8 ms e = by_four (Back (1 ∷ 2 ∷ []) 8) refl refl refl refl (sum ms) (two_sums ms e)

one_back_0 : (ms : List ℕ) → Bad (4 ∷ []) ms ≡ false → Back (4 ∷ []) 0 (sum ms)
one_back_0 ms e = ⊎_elim (λ z. subst (Back (4 ∷ []) 0) (sym z) refl) (λ z. subst (Back (4 ∷ []) 0) (sym z) refl) (one_sums ms e)

one_back_8 : (ms : List ℕ) → Bad (4 ∷ []) ms ≡ false → Back (4 ∷ []) 8 (sum ms)
one_back_8 ms e = ⊎_elim (λ z. subst (Back (4 ∷ []) 8) (sym z) refl) (λ z. subst (Back (4 ∷ []) 8) (sym z) refl) (one_sums ms e)

none_back : (ms : List ℕ) → Bad [] ms ≡ false → Back [] 0 (sum ms)
none_back ms e = subst (Back [] 0) (sym (none_sums ms e)) refl

pub marks_back : (op : Operation) (ms : List ℕ) → bad_marks op ms ≡ false → (facts op).unwritten + sum (written_marks op ((facts op).unwritten + sum ms)) ≡ (facts op).unwritten + sum ms
marks_back Add ms e = two_back_0 ms e
marks_back Sub ms e = two_back_0 ms e
marks_back Mul ms e = two_back_0 ms e
marks_back Shl ms e = two_back_8 ms e
marks_back Lshr ms e = one_back_8 ms e
marks_back Ashr ms e = one_back_8 ms e
marks_back Udiv ms e = one_back_0 ms e
marks_back Urem ms e = none_back ms e
marks_back Sdiv ms e = one_back_0 ms e
marks_back Srem ms e = none_back ms e
marks_back And ms e = none_back ms e
marks_back Or ms e = none_back ms e
marks_back Xor ms e = none_back ms e
marks_back Eq ms e = none_back ms e
marks_back Ne ms e = none_back ms e
marks_back Ult ms e = none_back ms e
marks_back Ule ms e = none_back ms e
marks_back Slt ms e = none_back ms e
marks_back Sle ms e = none_back ms e
marks_back Copy ms e = none_back ms e
marks_back Freeze ms e = none_back ms e
marks_back Select ms e = none_back ms e
