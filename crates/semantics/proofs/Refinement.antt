-- Refinement of programs is reflexive and transitive. Assumes nothing.
use Rattle.std.proofs.Common.{◌≡◌, ℕ, T, List, [], refl, ◌∙◌, subst, inr, Ok}
use mathlib.Core.Path.{subst⁻¹}
use Rattle.domain.specs.Model.{Model, Lawful, OutcomeRefines, Outcome, trap}
use Rattle.semantics.specs.Programs.{Program, Formed, Inputs, Choices, Refines, Env, nothing_yet, outcome}
use Rattle.semantics.proofs.Choices.{gather, spread}
use Rattle.semantics.proofs.Solutions.{Solves, solution, Ends, goes, traps, ends, solved_code}

-- outcomes
trans_outcome : (m : Model) → Lawful m → (a b c : Outcome) → OutcomeRefines m a b → OutcomeRefines m b c → OutcomeRefines m a c
trans_outcome m law (Ok a) (Ok b) (Ok c) h k = law.refines_trans a b c h k
trans_outcome m law (Ok a) (Ok b) trap h k = tt
trans_outcome m law (Ok a) trap (Ok c) h k = absurd k
trans_outcome m law (Ok a) trap trap h k = tt
trans_outcome m law trap (Ok b) (Ok c) h k = absurd h
trans_outcome m law trap (Ok b) trap h k = tt
trans_outcome m law trap trap (Ok c) h k = absurd k
trans_outcome m law trap trap trap h k = tt

-- an outcome refines itself, since it is a code or a trap
outcome_itself : (m : Model) → Lawful m → (p : Program) → Formed m p → (ins cs : List ℕ) → Inputs m p ins → Choices m p cs → OutcomeRefines m (outcome m p ins cs) (outcome m p ins cs)
outcome_itself m law p formed ins cs given chosen =
    let (f, settled, same) = spread (λ d. T (m.settled d)) law.some_settled.0 law.some_settled.1 m p.inputs [] p.body formed.ordered cs chosen.count chosen.settled in
    let (ρ, solves, start) = solution m p.inputs ins f [] p.body formed.ordered nothing_yet in
    subst (λ l. OutcomeRefines m (outcome m p ins l) (outcome m p ins l)) same
    (go ρ f settled solves (outcome m p ins (gather p.body f)) (ends m p.inputs ins ρ f p.result [] p.body formed.ordered solves nothing_yet (λ k h. absurd h) (inr formed.has_result)))
  where
    go : (ρ : Env) (f : ℕ → ℕ) → ((k : ℕ) → T (m.settled (f k))) → Solves m ins ρ f p.body → (o : Outcome) → Ends m ins ρ f p.body p.result o → OutcomeRefines m o o
    go ρ f settled solves o (goes all e) = subst⁻¹ (λ z. OutcomeRefines m z z) e (law.refines_refl (ρ p.result) (solved_code m law p.inputs ins given.codes ρ f settled [] p.body formed.ordered solves (λ k h. absurd h) p.result formed.has_result))
    go ρ f settled solves o (traps r i s t e) = subst⁻¹ (λ z. OutcomeRefines m z z) e tt

-- a program refines itself
pub refines_itself : (m : Model) → Lawful m → (p : Program) → Formed m p → Refines m p p
refines_itself m law p formed = record { inputs = refl; each = λ ins cs given chosen. (cs, chosen, outcome_itself m law p formed ins cs given chosen) }

-- inputs for one program are inputs for one with as many
pub inputs_moved : (m : Model) (q p : Program) → q.inputs ≡ p.inputs → (ins : List ℕ) → Inputs m q ins → Inputs m p ins
inputs_moved m q p e ins given = record { count = given.count ∙ e; codes = given.codes }

-- refinement goes on
pub refines_on : (m : Model) → Lawful m → (q p o : Program) → Refines m q p → Refines m p o → Refines m q o
refines_on m law q p o a b = record {
  inputs = a.inputs ∙ b.inputs;
  each = λ ins cs given chosen.
      let (ds, chosen2, h) = a.each ins cs given chosen in
      let (es, chosen3, k) = b.each ins ds (inputs_moved m q p a.inputs ins given) chosen2 in
      (es, chosen3, trans_outcome m law (outcome m q ins cs) (outcome m p ins ds) (outcome m o ins es) h k);
}
