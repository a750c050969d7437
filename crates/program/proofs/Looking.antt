-- The instruction in a record, and how many freezes there are, as std says them. Assumes nothing.
use Rattle.std.proofs.Common.{◌≡◌, ℕ, suc, true, false, cond, eqb, List, [], ◌∷◌, length, filter, find, Option, None, Some, refl, ap, ◌∙◌}
use Rattle.std.specs.Option.{option_map}
use Rattle.semantics.specs.Programs.{Placed, freezes, is_freeze}
use Rattle.semantics.specs.Fitting.{look}
use Rattle.semantics.specs.declared.Instruction.{Instruction}
use Rattle.program.specs.Windows.{in_its_record}

looks : (wanted : ℕ) (xs : List Placed) → option_map (λ x. x.what) (find (λ x. eqb x.at wanted) xs) ≡ look xs wanted
looks wanted [] = refl
looks wanted (x ∷ xs) =
    elim (eqb x.at wanted) as (λ b. option_map (λ x. x.what) (cond b (Some x) (find (λ x. eqb x.at wanted) xs)) ≡ cond b (Some x.what) (look xs wanted)) [ true ↦ refl | false ↦ looks wanted xs ]

pub look_found : (wanted : ℕ) (xs : List Placed) (found : Option (ℕ × Instruction)) → option_map in_its_record found ≡ find (λ x. eqb x.at wanted) xs → option_map (λ p. p.1) found ≡ look xs wanted
look_found wanted xs None e = ap (option_map (λ x. x.what)) e ∙ looks wanted xs
look_found wanted xs (Some p) e = ap (option_map (λ x. x.what)) e ∙ looks wanted xs

pub freezes_counted : (xs : List Placed) → length (filter (λ x. is_freeze x.what) xs) ≡ freezes xs
freezes_counted [] = refl
freezes_counted (x ∷ xs) =
    let rest = filter (λ (x : Placed). is_freeze x.what) xs in
    elim (is_freeze x.what) as (λ b. length (cond b (x ∷ rest) rest) ≡ cond b (suc (freezes xs)) (freezes xs)) [ true ↦ ap suc (freezes_counted xs) | false ↦ freezes_counted xs ]
