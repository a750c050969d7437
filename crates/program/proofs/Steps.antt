-- The steps of rewriting on the instructions along a chain. Assumes nothing.
use Rattle.std.proofs.Common.{◌≡◌, ℕ, ◌-◌, ◌≤◌, true, false, cond, ◌||◌, T, eqb, List, [], ◌∷◌, map, length, set, sym, refl, ap, ◌∙◌, subst, inl, inr, ⊎_elim, arith}
use Rattle.std.proofs.lemmas.Bool.{cond-true, cond-false, eqb-true, eqb-false, cases_Bool}
use Rattle.std.proofs.lemmas.List.{get_or-set_same, get_or-set_other}
use Rattle.semantics.specs.Programs.{Placed, has, records}
use Rattle.semantics.specs.declared.Instruction.{Instruction}
use Rattle.chain.specs.Chains.{Among, Apart, Chained, link}
use Rattle.chain.specs.Places.{put_before, without}
use Rattle.program.specs.View.{placed, no_instruction}
use Rattle.program.specs.Steps.{taken_out, put_in, put_into}

-- the instructions along a chain stand in its records
pub records_along : (is : List Instruction) (ks : List ℕ) → records (map (placed is) ks) ≡ ks
records_along is [] = refl
records_along is (k ∷ ks) = ap (λ l. k ∷ l) (records_along is ks)

pub has_among : (at : ℕ) (ks : List ℕ) → T (has at ks) → Among at ks
has_among at [] h = h
has_among at (k ∷ ks) h = ⊎_elim (λ e. inl (eqb-true at k e)) (λ e. inr (has_among at ks (subst (λ b. T (b || has at ks)) e h))) (cases_Bool (eqb at k))

pub along_without : (is : List Instruction) (at : ℕ) (ks : List ℕ) → map (placed is) (without at ks) ≡ taken_out at (map (placed is) ks)
along_without is at [] = refl
along_without is at (k ∷ ks) =
    let left = taken_out at (map (placed is) ks) in
    elim (eqb k at) as (λ b. map (placed is) (cond b (without at ks) (k ∷ without at ks)) ≡ cond b left (placed is k ∷ left)) [
      | true ↦ along_without is at ks
      | false ↦ ap (λ l. placed is k ∷ l) (along_without is at ks)
    ]

pub along_before : (is : List Instruction) (place at : ℕ) (ks : List ℕ) → map (placed is) (put_before place at ks) ≡ put_in place (placed is at) (map (placed is) ks)
along_before is place at [] = refl
along_before is place at (k ∷ ks) =
    let xs = map (placed is) ks in
    elim (eqb k place) as (λ b. map (placed is) (cond b (at ∷ k ∷ ks) (k ∷ put_before place at ks)) ≡ cond b (placed is at ∷ placed is k ∷ xs) (placed is k ∷ put_in place (placed is at) xs)) [
      | true ↦ refl
      | false ↦ ap (λ l. placed is k ∷ l) (along_before is place at ks)
    ]

-- another instruction in record `at`
module _ (is : List Instruction) (at : ℕ) (i : Instruction) (low : 1 ≤ at) (high : at ≤ length is) where
  pub here : placed (set is (at - 1) i) at ≡ record { at = at; what = i }
  here = ap (λ x. record { at = at; what = x }) (get_or-set_same is (at - 1) i no_instruction (omega arith))

  elsewhere : (k : ℕ) → 1 ≤ k → (k ≡ at → ⊥) → placed (set is (at - 1) i) k ≡ placed is k
  elsewhere k l n = ap (λ x. record { at = k; what = x }) (get_or-set_other is (at - 1) (k - 1) i no_instruction (λ e. n (omega arith)))

  pub along_others : (links : List ℕ) (first : ℕ) (ks : List ℕ) → Chained links first ks → Apart at ks → map (placed (set is (at - 1) i)) ks ≡ map (placed is) ks
  along_others links first [] c a = refl
  along_others links first (k ∷ ks) c a =
      let h = elsewhere k c.1 (λ e. a.0 (sym e)) in
      let t = along_others links (link links k) ks c.4 a.1 in
      cc

  pub along_put : (links : List ℕ) (first : ℕ) (ks : List ℕ) → Chained links first ks → map (placed (set is (at - 1) i)) ks ≡ put_into at i (map (placed is) ks)
  along_put links first [] c = refl
  along_put links first (k ∷ ks) c =
      let t = along_put links (link links k) ks c.4 in
      let new : Placed = record { at = at; what = i } in
      let h : placed (set is (at - 1) i) k ≡ cond (eqb k at) new (placed is k) =
      ⊎_elim
      (λ e. ap (placed (set is (at - 1) i)) (eqb-true k at e) ∙ here ∙ sym (cond-true (eqb k at) new (placed is k) e))
      (λ e. elsewhere k c.1 (eqb-false k at e) ∙ sym (cond-false (eqb k at) new (placed is k) e))
      (cases_Bool (eqb k at)) in
      cc
