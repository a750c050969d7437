-- Names of inputs read one by one against the rule for an `in` line. Assumes nothing.
use Rattle.std.proofs.Common.{◌≡◌, ℕ, ◌≤◌, Bool, true, false, cond, ◌||◌, ltb, leb, List, [], ◌∷◌, ◌++◌, length, Some, None, Ok, Err, Option, Result, sym, refl, ap, ◌∙◌, subst, ⊎_elim, append_assoc, append-nil, arith}
use Rattle.std.proofs.lemmas.List.{length-append, length_push}
use Rattle.std.proofs.lemmas.Bool.{cases_Bool, cond-true, cond-false, lt-ltb, le-ltb, leb-true, leb-false}
use Rattle.vocabulary.specs.Names.{same_word}
use Rattle.scan.specs.Pieces.{Bytes}
use Rattle.text.specs.Words.{and_then, each, name}
use Rattle.text.specs.Faults.{next, wrong, first_of, unless}
use Rattle.text.specs.Instructions.{among}
use Rattle.text.specs.ProgramTexts.{Reading as Said, twice}
use Rattle.text.proofs.Found.{same_itself}
use Rattle.text.proofs.Named.{same_true}
use Rattle.reader.specs.declared.fault.TextFault.{TextFault}
use Rattle.reader.specs.declared.fault.TextFault.TheVariants.{TooMany, BadName}
use Rattle.reader.specs.ReadFaults.{text_number}
use Rattle.reader.specs.Inputs.{by_name, inputs_of}

same_both : (b c : Bool) → (b ≡ true → c ≡ true) → (c ≡ true → b ≡ true) → b ≡ c
same_both true c f g = sym (f refl)
same_both false true f g = g refl
same_both false false f g = refl

same_back : (v w : Bytes) → same_word v w ≡ true → same_word w v ≡ true
same_back v w e = subst (λ (u : Bytes). same_word u v ≡ true) (same_true v w e) (same_itself v)

same_sym : (v w : Bytes) → same_word v w ≡ same_word w v
same_sym v w = same_both (same_word v w) (same_word w v) (same_back v w) (same_back w v)

among_push : (x : Bytes) (xs : List Bytes) (n : Bytes) → among x (xs ++ n ∷ []) ≡ (among x xs || same_word x n)
among_push x [] n = last (same_word x n)
  where
    last : (b : Bool) → (b || false) ≡ b
    last true = refl
    last false = refl
among_push x (y ∷ xs) n = ap (λ b. same_word x y || b) (among_push x xs n) ∙ deeper (same_word x y) (among x xs) (same_word x n)
  where
    deeper : (a b c : Bool) → (a || (b || c)) ≡ ((a || b) || c)
    deeper true b c = refl
    deeper false b c = refl

shuffled : (a s t m : Bool) → ((a || s) || (t || m)) ≡ ((a || t) || (s || m))
shuffled true s t m = refl
shuffled false true true m = refl
shuffled false true false m = refl
shuffled false false t m = refl

-- one more name stands there twice if it stood there
pub twice_push : (xs : List Bytes) (n : Bytes) → twice (xs ++ n ∷ []) ≡ (twice xs || among n xs)
twice_push [] n = refl
twice_push (x ∷ xs) n =
    (λ j. (among_push x xs n ∙ ap (λ b. among x xs || b) (same_sym x n)) j || twice_push xs n j)
    ∙ shuffled (among x xs) (same_word n x) (twice xs) (among n xs)

-- the rule: one too many is the ninth, and each may stand once
abbrev pub ruled : List Bytes → Result (List Bytes) TextFault
ruled ns = cond (ltb 8 (length ns)) (Err TooMany) (cond (twice ns) (Err BadName) (Ok ns))

pub inputs_told : (ws ns xs : List Bytes) (again : Bool) → each name ws ≡ Some ns → length xs ≤ 8 → again ≡ twice xs → inputs_of xs again ws ≡ ruled (xs ++ ns)
inputs_told [] ns xs again e few same =
    let none : [] ≡ ns = cc in
    ap (λ b. cond b (Err BadName) (Ok xs)) same
    ∙ sym (cond-false (ltb 8 (length xs)) (Err TooMany) (cond (twice xs) (Err BadName) (Ok xs)) (le-ltb 8 (length xs) few))
    ∙ ap ruled (sym (append-nil xs) ∙ ap (λ l. xs ++ l) none)
inputs_told (w ∷ ws) ns xs again e few same = go (inputs_told ws) (name w) (each name ws) refl e
  where
    go : ((ns xs : List Bytes) (again : Bool) → each name ws ≡ Some ns → length xs ≤ 8 → again ≡ twice xs → inputs_of xs again ws ≡ ruled (xs ++ ns)) → (o : Option Bytes) (p : Option (List Bytes)) → each name ws ≡ p → and_then o (λ x. and_then p (λ l. Some (x ∷ l))) ≡ Some ns → cond (leb 8 (length xs)) (Err TooMany) (by_name o (λ n. inputs_of (xs ++ n ∷ []) (again || among n xs) ws)) ≡ ruled (xs ++ ns)
    go later None p q e = let z : ◌≡◌ {A = ℕ} 0 1 = cc in absurd (omega arith)
    go later (Some n) None q e = let z : ◌≡◌ {A = ℕ} 0 1 = cc in absurd (omega arith)
    go later (Some n) (Some ms) q e =
        let more : n ∷ ms ≡ ns = cc in
        ⊎_elim
        (λ full. cond-true (leb 8 (length xs)) (Err TooMany) (inputs_of (xs ++ n ∷ []) (again || among n xs) ws) full
        ∙ sym (cond-true (ltb 8 (length (xs ++ n ∷ ms))) (Err TooMany) (cond (twice (xs ++ n ∷ ms)) (Err BadName) (Ok (xs ++ n ∷ ms))) (lt-ltb 8 (length (xs ++ n ∷ ms)) (omega (arith, leb-true 8 (length xs) full, length-append xs (n ∷ ms)))))
        ∙ ap (λ l. ruled (xs ++ l)) more)
        (λ room. cond-false (leb 8 (length xs)) (Err TooMany) (inputs_of (xs ++ n ∷ []) (again || among n xs) ws) room
        ∙ later ms (xs ++ n ∷ []) (again || among n xs) q (omega (arith, leb-false 8 (length xs) room, length_push xs n)) (ap (λ b. b || among n xs) same ∙ sym (twice_push xs n))
        ∙ ap ruled (append_assoc xs (n ∷ []) ms)
        ∙ ap (λ l. ruled (xs ++ l)) more)
        (cases_Bool (leb 8 (length xs)))

pub inputs_ruled : (ws xs : List Bytes) (r : Result (List Bytes) TextFault) → r ≡ inputs_of xs false ws → xs ≡ [] → (ns : List Bytes) → each name ws ≡ Some ns → r ≡ ruled ns
inputs_ruled ws xs r is none ns e = is ∙ ap (λ l. inputs_of l false ws) none ∙ inputs_told ws ns [] false e (omega arith) refl

-- what the rule says, as a step
pub inputs_refused : (many again : Bool) (ns : List Bytes) (f : TextFault) (s : Said) → Err f ≡ cond many (Err TooMany) (cond again (Err BadName) (Ok ns)) → wrong (text_number f) ≡ unless (first_of many 4 (first_of again 5 None)) s
inputs_refused true again ns f s e = let is : f ≡ TooMany = cc in ap (λ x. wrong (text_number x)) is
inputs_refused false true ns f s e = let is : f ≡ BadName = cc in ap (λ x. wrong (text_number x)) is
inputs_refused false false ns f s e = let z : ◌≡◌ {A = ℕ} 0 1 = cc in absurd (omega arith)

pub inputs_taken : (many again : Bool) (ns xs : List Bytes) (s : List Bytes → Said) → Ok xs ≡ cond many (Err TooMany) (cond again (Err BadName) (Ok ns)) → next (s xs) ≡ unless (first_of many 4 (first_of again 5 None)) (s ns)
inputs_taken true again ns xs s e = let z : ◌≡◌ {A = ℕ} 0 1 = cc in absurd (omega arith)
inputs_taken false true ns xs s e = let z : ◌≡◌ {A = ℕ} 0 1 = cc in absurd (omega arith)
inputs_taken false false ns xs s e = let is : xs ≡ ns = cc in ap (λ l. next (s l)) is
