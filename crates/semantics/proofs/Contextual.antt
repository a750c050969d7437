-- A rule whose target refines its source refines wherever it fits. Assumes nothing.
use Rattle.std.proofs.Common.{◌≡◌, ℕ, ◌<◌, cond, T, List, [], length, refl, ◌∙◌, subst}
use mathlib.Core.Path.{subst⁻¹}
use Rattle.std.proofs.lemmas.Bool.{cond-true}
use Rattle.domain.specs.Model.{Model, Lawful, OutcomeRefines}
use Rattle.semantics.specs.Programs.{Placed, Inputs, Choices, Refines, Env, value, nothing_yet, outcome, All}
use Rattle.semantics.specs.Rules.{target_of, source_of, Contextual}
use Rattle.semantics.proofs.Members.{holds, In}
use Rattle.semantics.proofs.Steps.{frozen}
use Rattle.semantics.proofs.Choices.{gather, gather_count, gather_all, gather_same, spread}
use Rattle.semantics.proofs.Solutions.{Solves, solution, input_code, solved_code}
use Rattle.semantics.proofs.Sides.{listed_length, listed_all}
use Rattle.semantics.proofs.Fitting.{Fitting, upper_stays, sources, targets, home_of, new, unmatched, variable_holds}
use Rattle.semantics.proofs.Rewritten.{ordered_new}
use Rattle.semantics.proofs.Beside.{Beside}
use Rattle.semantics.proofs.Whole.{vars, target_outcome, source_outcome, refines_whole}
use Rattle.semantics.proofs.Taken.{taken, taken_match, taken_else, taken_all}

-- a function from records to settled choices
abbrev Settled : Model → (ℕ → ℕ) → Type 0
Settled m f = (k : ℕ) → T (m.settled (f k))

gathered : {m : Model} (xs : List Placed) (f : ℕ → ℕ) → Settled m f → (n result : ℕ) → Choices m (record { inputs = n; body = xs; result = result }) (gather xs f)
gathered {m} xs f h n result = record { count = gather_count xs f; settled = gather_all (λ d. T (m.settled d)) xs f h }

module _ {m : Model} (law : Lawful m) (c : Fitting m) (refines : Refines m (target_of c.rule) (source_of c.rule)) (ins : List ℕ) (codes : All (λ d. d < m.size) ins) (f : ℕ → ℕ) (settled : Settled m f) where
  -- the values of the variables are codes
  variable_code : (ρ : Env) → Solves m ins ρ f (new c).body → (v : ℕ) → v < c.rule.variables → value ins ρ (c.match.operand_of v) < m.size
  variable_code ρ solves =
      variable_holds c (λ o. value ins ρ o < m.size)
      (λ k l. input_code m law c.old.inputs ins codes k)
      (λ k h g. solved_code m law c.old.inputs ins codes ρ f settled [] (new c).body (ordered_new c) solves (λ k h. absurd h) k (upper_stays c k h g))
      (λ d t. law.settled_code d t)

  -- the source has choices with an outcome that the target's refines
  source_choices : (ρ : Env) → Solves m ins ρ f (new c).body → (own : ℕ → ℕ) × Settled m own × OutcomeRefines m (target_outcome c (vars c ins ρ) f) (outcome m (source_of c.rule) (vars c ins ρ) (gather (sources c) own))
  source_choices ρ solves =
      let n = c.rule.variables in
      let (ds, chosen, sides) = refines.each (vars c ins ρ) (gather (targets c) (λ j. f (home_of c j)))
      (record { count = listed_length n _; codes = listed_all (λ d. d < m.size) n _ (variable_code ρ solves) })
      (gathered (targets c) (λ j. f (home_of c j)) (λ j. settled (home_of c j)) n (length c.rule.target)) in
      let (own, own-settled, own-ds) = spread (λ d. T (m.settled d)) law.some_settled.0 law.some_settled.1 m n [] (sources c) c.made.source_formed.ordered ds chosen.count chosen.settled in
      (own, own-settled, subst⁻¹ (λ l. OutcomeRefines m (target_outcome c (vars c ins ρ) f) (outcome m (source_of c.rule) (vars c ins ρ) l)) own-ds sides)

  -- the old program with those choices at its matches, and with what the new program has elsewhere
  old_choices : (ρ : Env) → Solves m ins ρ f (new c).body → (own : ℕ → ℕ) → Settled m own → OutcomeRefines m (target_outcome c (vars c ins ρ) f) (outcome m (source_of c.rule) (vars c ins ρ) (gather (sources c) own)) →
      (ds : List ℕ) × Choices m c.old ds × OutcomeRefines m (outcome m (new c) ins (gather (new c).body f)) (outcome m c.old ins ds)
  old_choices ρ solves own own-settled sides = (gather c.old.body g, gathered c.old.body g g_settled c.old.inputs c.old.result, refines_whole beside law codes sides_of_g)
    where
      keep : ℕ → ℕ
      keep k = cond (m.settled (ρ k)) (ρ k) law.some_settled.0

      g : ℕ → ℕ
      g = taken c.match own keep (sources c)

      g_settled : Settled m g
      g_settled = taken_all c.match own keep (λ d. T (m.settled d)) own-settled (λ k. frozen m (ρ k) law.some_settled.0 law.some_settled.1) (sources c)

      old_values : (σ : Env) × Solves m ins σ g c.old.body × ((k : ℕ) → In k [] → σ k ≡ nothing_yet k)
      old_values = solution m c.old.inputs ins g [] c.old.body c.formed.ordered nothing_yet

      beside : Beside c ins f ρ g old_values.0
      beside = record {
        settled = settled;
        solves_new = solves;
        solves_old = old_values.1;
        follow = λ k stays t. taken_else c.match own keep (sources c) k (unmatched c k stays) ∙ cond-true (m.settled (ρ k)) (ρ k) law.some_settled.0 (holds (m.settled (ρ k)) t);
      }

      sides_of_g : OutcomeRefines m (target_outcome c (vars c ins ρ) f) (source_outcome c (vars c ins ρ) g)
      sides_of_g = subst⁻¹ (λ l. OutcomeRefines m (target_outcome c (vars c ins ρ) f) (outcome m (source_of c.rule) (vars c ins ρ) l)) (gather_same (sources c) (λ j. g (c.match.record_of j)) own (taken_match c.match own keep (sources c) c.fits.apart)) sides

  each_choice : (ds : List ℕ) × Choices m c.old ds × OutcomeRefines m (outcome m (new c) ins (gather (new c).body f)) (outcome m c.old ins ds)
  each_choice =
      let (ρ, solves, start) = solution m c.old.inputs ins f [] (new c).body (ordered_new c) nothing_yet in
      let (own, own-settled, sides) = source_choices ρ solves in
      old_choices ρ solves own own-settled sides

pub contextual : (m : Model) → Lawful m → Contextual m
contextual m law r made refines p formed at w fits fresh free = record { inputs = refl; each = each }
  where
    c : Fitting m
    c = record { rule = r; made = made; old = p; formed = formed; at = at; match = w; fits = fits; fresh = fresh; free = free }

    each : (ins cs : List ℕ) → Inputs m (new c) ins → Choices m (new c) cs → (ds : List ℕ) × Choices m p ds × OutcomeRefines m (outcome m (new c) ins cs) (outcome m p ins ds)
    each ins cs given choices =
        let (f, settled, f-cs) = spread (λ d. T (m.settled d)) law.some_settled.0 law.some_settled.1 m p.inputs [] (new c).body (ordered_new c) cs choices.count choices.settled in
        let (ds, chosen, h) = each_choice law c refines ins given.codes f settled in
        (ds, chosen, subst (λ l. OutcomeRefines m (outcome m (new c) ins l) (outcome m p ins ds)) f-cs h)
