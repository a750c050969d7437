-- Tables of names, searched name by name. Assumes nothing.
use Rattle.std.proofs.Common.{◌≡◌, ℕ, suc, ◌+◌, Bool, true, false, cond, not, ltb, List, [], ◌∷◌, map, length, is_some, Some, None, Option, sym, refl, ap, ◌∙◌, arith, Bor}
use Rattle.std.specs.List.{position_or_len}
use Rattle.std.proofs.lemmas.Bool.Decides.{nat_tests}
use Rattle.vocabulary.specs.Names.{same_word}
use Rattle.scan.specs.Pieces.{Bytes}
use Rattle.text.specs.Instructions.{placed_at, place, among}
use Rattle.text.proofs.Found.{not_placed, among_placed}

-- the place at which a search finds a name is the name's
pub place_searched : (n : Bytes) (xs : List (Bor Bytes)) → let at = position_or_len (λ (x : Bor Bytes). same_word n x.now) xs in cond (ltb at (length xs)) (Some at) None ≡ place n (map (λ x. x.now) xs)
place_searched n [] = refl
place_searched n (x ∷ xs) = go (same_word n x.now) (position_or_len (λ (y : Bor Bytes). same_word n y.now) xs) (place n (map (λ y. y.now) xs)) (place_searched n xs)
  where
    later : (k : ℕ) (b : Bool) → cond b (Some (1 + k)) None ≡ placed_at false (cond b (Some k) None)
    later k true = ap (λ j. Some j) (omega arith)
    later k false = refl

    go : (b : Bool) (k : ℕ) (o : Option ℕ) → cond (ltb k (length xs)) (Some k) None ≡ o → let at = cond (not b) (1 + k) 0 in cond (ltb at (suc (length xs))) (Some at) None ≡ placed_at b o
    go true k o e = let h : ltb 0 (suc (length xs)) ≡ true = grind (arith, nat_tests) in ap (λ b. cond b (Some 0) None) h
    go false k o e =
        let h : ltb (1 + k) (suc (length xs)) ≡ ltb k (length xs) = grind (arith, nat_tests) in
        ap (λ b. cond b (Some (1 + k)) None) h ∙ later k (ltb k (length xs)) ∙ ap (placed_at false) e

among_by : (n : Bytes) (xs : List Bytes) (o : Option ℕ) → place n xs ≡ o → is_some o ≡ among n xs
among_by n xs (Some k) e = sym (among_placed n xs k e)
among_by n xs None e = sym (not_placed n xs e)

pub among_is : (n : Bytes) (xs : List Bytes) → is_some (place n xs) ≡ among n xs
among_is n xs = among_by n xs (place n xs) refl
