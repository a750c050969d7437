-- A run of the new program beside one of the old program that follows it, by their valuations. Assumes nothing.
use Rattle.std.proofs.Common.{◌≡◌, ℕ, ◌<◌, T, List, [], get_or, sym, refl, ap, ◌∙◌, subst, Ok}
use mathlib.Core.Path.{subst⁻¹}
use Rattle.domain.specs.Model.{Model, Lawful, OutcomeRefines, Outcome, trap}
use Rattle.semantics.specs.Programs.{Env, value, step, reads, records, All}
use Rattle.semantics.proofs.Members.{In, Each}
use Rattle.semantics.proofs.Steps.{code_of, Follows, step_follows, step_mono}
use Rattle.semantics.proofs.Solutions.{Solves, input_code}
use Rattle.semantics.proofs.Order.{before, ordered_before, stands_before, in_before, reads_before}
use Rattle.semantics.proofs.Splice.{spliced_keeps}
use Rattle.semantics.proofs.Fitting.{Fitting, gone, upper, new_block, new, Stays, unread, variable_holds}
use Rattle.semantics.proofs.Related.{operands_related, related}

-- f and ρ are the choices and the values of the new program, g and σ those of the old one, which chooses what the new one has
pub record Beside {m : Model} (c : Fitting m) (ins : List ℕ) (f : ℕ → ℕ) (ρ : Env) (g : ℕ → ℕ) (σ : Env) : Type 0 where
  pub settled : (k : ℕ) → T (m.settled (f k))
  pub solves_new : Solves m ins ρ f (new c).body
  pub solves_old : Solves m ins σ g c.old.body
  pub follow : (k : ℕ) → Stays c k → T (m.settled (ρ k)) → g k ≡ ρ k

-- what refines a code is a code
code_refines : (m : Model) (o : Outcome) (b : ℕ) → OutcomeRefines m o (Ok b) → T (m.refines (code_of o) b)
code_refines m (Ok a) b h = h
code_refines m trap b h = absurd h

module _ {m : Model} {c : Fitting m} {ins : List ℕ} {f : ℕ → ℕ} {ρ : Env} {g : ℕ → ℕ} {σ : Env} (b : Beside c ins f ρ g σ) where
  -- an instruction that stays has its value in the new program
  value_new : Each c.old.body (λ q i. Stays c q → ρ q ≡ code_of (step m (value ins ρ) i (f q)))
  value_new q i s k = b.solves_new q i (spliced_keeps (gone c) c.at (new_block c) c.old.body q i s k)

  follows : Each c.old.body (λ q i. Stays c q → Follows m (step m (value ins ρ) i (f q)) (g q))
  follows q i s k t = let e = value_new q i s k in b.follow q k (subst⁻¹ (λ v. T (m.settled v)) e t) ∙ e

  -- before the place both have the same values
  same_before : (k : ℕ) → In k (records (upper c)) → (In k (gone c) → ⊥) → ρ k ≡ σ k
  same_before =
      related m c.old.inputs (gone c) c.at ins ρ σ (λ a b. a ≡ b) (λ k. refl) (λ c t. refl) [] (upper c) (ordered_before m c.old.inputs [] c.at c.old.body c.formed.ordered)
      (λ k h. absurd h)
      (λ q i s e. absurd ((stands_before c.at c.old.body q i s).1 e))
      (λ q i s. unread c q i (stands_before c.at c.old.body q i s).0)
      (λ q i s k all.
      let there = (stands_before c.at c.old.body q i s).0 in
      value_new q i there k ∙ ap code_of (step_follows m (value ins ρ) (value ins σ) i (f q) (g q) (b.settled q) (follows q i there k) all) ∙ sym (b.solves_old q i there))

  -- so has each variable
  pub variable_same : (v : ℕ) → v < c.rule.variables → value ins ρ (c.match.operand_of v) ≡ value ins σ (c.match.operand_of v)
  variable_same = variable_holds c (λ o. value ins ρ o ≡ value ins σ o) (λ k l. refl) same_before (λ d t. refl)

  -- where the old program goes through, and the value at the place refines the old one
  module _ (law : Lawful m) (codes : All (λ d. d < m.size) ins) (goes-old : Each c.old.body (λ q i. step m (value ins σ) i (g q) ≡ Ok (σ q))) (met : T (m.refines (ρ c.at) (σ c.at))) where
    abbrev Refine : ℕ → ℕ → Type 0
    Refine x y = T (m.refines x y)

    inputs : (k : ℕ) → Refine (get_or ins k 0) (get_or ins k 0)
    inputs k = law.refines_refl _ (input_code m law c.old.inputs ins codes k)

    constants : (d : ℕ) → T (m.settled d) → Refine d d
    constants d t = law.refines_refl d (law.settled_code d t)

    mono : Each c.old.body (λ q i. Stays c q → All (λ o. Refine (value ins ρ o) (value ins σ o)) (reads i) → OutcomeRefines m (step m (value ins ρ) i (f q)) (Ok (σ q)))
    mono q i s k all = subst (OutcomeRefines m (step m (value ins ρ) i (f q))) (goes-old q i s) (step_mono m law (value ins ρ) (value ins σ) i (f q) (g q) (b.settled q) (follows q i s k) all)

    -- all that stays has a value that refines the old one
    pub refined : (k : ℕ) → In k (records c.old.body) → (In k (gone c) → ⊥) → Refine (ρ k) (σ k)
    refined =
        related m c.old.inputs (gone c) c.at ins ρ σ Refine inputs constants [] c.old.body c.formed.ordered
        (λ k h. absurd h)
        (λ q i s e. subst⁻¹ (λ z. Refine (ρ z) (σ z)) e met)
        (unread c)
        (λ q i s k all. subst⁻¹ (λ z. Refine z (σ q)) (value_new q i s k) (code_refines m _ (σ q) (mono q i s k all)))

    -- and does not trap
    pub kept_goes : Each c.old.body (λ q i. Stays c q → step m (value ins ρ) i (f q) ≡ trap → ⊥)
    kept_goes q i s k ends =
        let all = operands_related m c.old.inputs (gone c) c.at ins ρ σ Refine inputs constants (records (before q c.old.body)) (λ k h. refined k (in_before q c.old.body k h)) (reads i) (unread c q i s k) (reads_before m c.old.inputs c.old.body c.formed.ordered q i s) in
        subst (λ o. OutcomeRefines m o (Ok (σ q))) ends (mono q i s k all)
