-- The record before another is the last of those that a walk passes before it. Assumes nothing.
use Rattle.std.proofs.Common.{◌≡◌, ℕ, not, cond, true, false, eqb, List, [], ◌∷◌, take_while, unwrap_or, Option, None, Some, sym, refl, ap, ◌∙◌}
use Rattle.std.specs.Iterator.{Drains}
use Rattle.std.specs.List.{last_or}
use Rattle.std.proofs.lemmas.Iterator.{YieldsList, items_from_drains}
use Rattle.std.proofs.lemmas.List.{map-id}
use Rattle.std.proofs.lemmas.List.Sums.{take_while-cons}
use Rattle.chain.specs.Places.{predecessor}

pub last_before : (wanted : ℕ) (last : Option ℕ) (ks : List ℕ) → unwrap_or (last_or last (take_while (λ k. not (eqb k wanted)) ks)) 0 ≡ predecessor (unwrap_or last 0) ks wanted
last_before wanted last [] = refl
last_before wanted last (k ∷ ks) =
    let behind : List ℕ = k ∷ take_while (λ k. not (eqb k wanted)) ks in
    ap (λ l. unwrap_or (last_or last l) 0) (take_while-cons (λ k. not (eqb k wanted)) k ks) ∙
    elim (eqb k wanted) as (λ b. unwrap_or (last_or last (cond (not b) behind [])) 0 ≡ cond b (unwrap_or last 0) (predecessor k ks wanted)) [
      | true ↦ refl
      | false ↦ last_before wanted (Some k) ks
    ]

-- `last` of an iterator that gives a list
pub last_from_yields_list : {S A : Type 0} {steps : S → Option A → S → Type 0} {s : S} {all : List A} (r : Option A) → ((xs : List A) × Drains steps s xs × (r ≡ last_or None xs)) → YieldsList steps (λ x. x) s all → r ≡ last_or None all
last_from_yields_list r (xs, (u, (t, yields, ends)), is) road = is ∙ ap (last_or None) (sym (map-id xs) ∙ items_from_drains xs (t, yields, (λ _. (u, ends))) road)
