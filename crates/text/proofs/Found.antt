-- The place of a name in a list. Assumes nothing.
use Rattle.std.proofs.Common.{◌≡◌, ℕ, suc, ◌<◌, ◌≤◌, Bool, true, false, cond, ◌&&◌, ◌||◌, T, eqb, ◌⊎◌, List, [], ◌∷◌, ◌++◌, length, Some, None, Option, sym, refl, ap, ◌∙◌, inl, inr, ⊎_elim, append_assoc, append-nil, arith, length-append}
use lib.Dec.{eqb_refl}
use Rattle.std.proofs.lemmas.Bool.{or_parts}
use Rattle.semantics.proofs.Members.{same?}
use Rattle.scan.specs.Pieces.{Bytes}
use Rattle.vocabulary.specs.Names.{same_word}
use Rattle.text.specs.Words.{Argument, a_name, a_number, a_code}
use Rattle.text.specs.Instructions.{placed_at, place, among, learn, learnt}
use Rattle.text.proofs.Tests.{no_some}

pub same_itself : (w : Bytes) → same_word w w ≡ true
same_itself [] = refl
same_itself (x ∷ xs) = go (eqb x x) (eqb_refl x) (same_itself xs)
  where
    go : (b : Bool) → T b → same_word xs xs ≡ true → (b && same_word xs xs) ≡ true
    go true t rest = rest
    go false t rest = absurd t

pub place_below : (n : Bytes) (xs : List Bytes) (k : ℕ) → place n xs ≡ Some k → k < length xs
place_below n [] k e = absurd (no_some (sym e))
place_below n (x ∷ xs) k e = go (same_word n x) (place n xs) (place_below n xs) e
  where
    go : (b : Bool) (o : Option ℕ) → ((j : ℕ) → o ≡ Some j → j < length xs) → placed_at b o ≡ Some k → k < suc (length xs)
    go true o rest e = let z : k ≡ 0 = cc in omega arith
    go false (Some j) rest e = let z : k ≡ suc j = cc in let h = rest j refl in omega arith
    go false None rest e = absurd (no_some (sym e))

pub not_placed : (n : Bytes) (xs : List Bytes) → place n xs ≡ None → among n xs ≡ false
not_placed n [] e = refl
not_placed n (x ∷ xs) e = go (same_word n x) (place n xs) (not_placed n xs) e
  where
    go : (b : Bool) (o : Option ℕ) → (o ≡ None → among n xs ≡ false) → placed_at b o ≡ None → (b || among n xs) ≡ false
    go true o rest e = absurd (no_some e)
    go false (Some j) rest e = absurd (no_some e)
    go false None rest e = rest refl

pub absent_placed : (n : Bytes) (xs : List Bytes) → among n xs ≡ false → place n xs ≡ None
absent_placed n [] e = refl
absent_placed n (x ∷ xs) e =
    let p = or_parts (same_word n x) (among n xs) e in
    ap (λ b. placed_at b (place n xs)) p.0 ∙ ap (placed_at false) (absent_placed n xs p.1)

-- what is placed is among
pub among_placed : (x : Bytes) (xs : List Bytes) (j : ℕ) → place x xs ≡ Some j → among x xs ≡ true
among_placed x xs j e = go (among x xs) refl
  where
    go : (b : Bool) → among x xs ≡ b → b ≡ true
    go true q = refl
    go false q = absurd (no_some (sym e ∙ absent_placed x xs q))

-- a name that was placed stays where it is
pub place_kept : (n : Bytes) (xs ys : List Bytes) (k : ℕ) → place n xs ≡ Some k → place n (xs ++ ys) ≡ Some k
place_kept n [] ys k e = absurd (no_some (sym e))
place_kept n (x ∷ xs) ys k e = go (same_word n x) (place n xs) (place_kept n xs ys) e
  where
    go : (b : Bool) (o : Option ℕ) → ((j : ℕ) → o ≡ Some j → place n (xs ++ ys) ≡ Some j) → placed_at b o ≡ Some k → placed_at b (place n (xs ++ ys)) ≡ Some k
    go true o rest e = e
    go false (Some j) rest e = ap (placed_at false) (rest j refl) ∙ e
    go false None rest e = absurd (no_some (sym e))

-- a new name stands at the end
pub place_last : (n : Bytes) (xs : List Bytes) → among n xs ≡ false → place n (xs ++ n ∷ []) ≡ Some (length xs)
place_last n [] e = ap (λ b. placed_at b None) (same_itself n)
place_last n (x ∷ xs) e =
    let p = or_parts (same_word n x) (among n xs) e in
    ap (λ b. placed_at b (place n (xs ++ n ∷ []))) p.0 ∙ ap (placed_at false) (place_last n xs p.1)

-- variables only grow
pub learn_more : (is vs : List Bytes) (a : Argument) → (new : List Bytes) × (learn is vs a ≡ vs ++ new)
learn_more is vs (a_name n) = go (among n is || among n vs)
  where
    go : (b : Bool) → (new : List Bytes) × (cond b vs (vs ++ n ∷ []) ≡ vs ++ new)
    go true = ([], sym (append-nil vs))
    go false = (n ∷ [], refl)
learn_more is vs (a_number z) = ([], sym (append-nil vs))
learn_more is vs (a_code c) = ([], sym (append-nil vs))

pub learnt_more : (is vs : List Bytes) (xs : List Argument) → (new : List Bytes) × (learnt is vs xs ≡ vs ++ new)
learnt_more is vs [] = ([], sym (append-nil vs))
learnt_more is vs (a ∷ xs) =
    let (one, e) = learn_more is vs a in
    let (rest, f) = learnt_more is (learn is vs a) xs in
    (one ++ rest, f ∙ ap (λ l. l ++ rest) e ∙ append_assoc vs one rest)

pub learnt_longer : (is vs : List Bytes) (xs : List Argument) → length vs ≤ length (learnt is vs xs)
learnt_longer is vs xs = let (new, e) = learnt_more is vs xs in rw e (omega (arith, length-append vs new))

-- an operand that is a variable, at a place
abbrev pub NamesVariable : List Bytes → List Bytes → ℕ → Argument → Type 0
NamesVariable is vs v (a_name n) = (place n is ≡ None) × (place n vs ≡ Some v)
NamesVariable is vs v (a_number z) = ⊥
NamesVariable is vs v (a_code c) = ⊥

abbrev pub SomeOf : {A : Type 0} → (A → Type 0) → List A → Type 0
SomeOf P [] = ⊥
SomeOf P (x ∷ xs) = P x ⊎ SomeOf P xs

-- each new variable is an operand of the line
pub learnt_new : (is vs : List Bytes) (xs : List Argument) (v : ℕ) → length vs ≤ v → v < length (learnt is vs xs) → SomeOf (NamesVariable is (learnt is vs xs) v) xs
learnt_new is vs [] v low high = omega arith
learnt_new is vs (a_number z ∷ xs) v low high = inr (learnt_new is vs xs v low high)
learnt_new is vs (a_code c ∷ xs) v low high = inr (learnt_new is vs xs v low high)
learnt_new is vs (a_name n ∷ xs) v low high = go (among n is || among n vs) refl (λ us. learnt_new is us xs v) (λ us. learnt_more is us xs) high
  where
    Goal : List Bytes → Type 0
    Goal us = SomeOf (NamesVariable is (learnt is us xs) v) (a_name n ∷ xs)

    go : (b : Bool) → (among n is || among n vs) ≡ b → ((us : List Bytes) → length us ≤ v → v < length (learnt is us xs) → SomeOf (NamesVariable is (learnt is us xs) v) xs) →
        ((us : List Bytes) → (new : List Bytes) × (learnt is us xs ≡ us ++ new)) →
        v < length (learnt is (cond b vs (vs ++ n ∷ [])) xs) → SomeOf (NamesVariable is (learnt is (cond b vs (vs ++ n ∷ [])) xs) v) (a_name n ∷ xs)
    go true e rest more high = inr (rest vs low high)
    go false e rest more high =
        let us = vs ++ n ∷ [] in
        let p = or_parts (among n is) (among n vs) e in
        let (new, f) = more us in
        let here : place n (learnt is us xs) ≡ Some (length vs) = ap (place n) f ∙ place_kept n us new (length vs) (place_last n vs p.1) in
        ⊎_elim
        (λ same. inl (absent_placed n is p.0, here ∙ ap Some (sym same)))
        (λ other. inr (rest us (let l = length-append vs (n ∷ []) in omega arith) high))
        (same? v (length vs))
