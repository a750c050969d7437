-- The outcome of the new program refines that of the old one beside it, if the target's refines the source's. Assumes nothing.
use Rattle.std.proofs.Common.{◌≡◌, ℕ, ◌<◌, T, List, [], length, get_or, sym, ◌∙◌, subst₂, inr, ⊎_elim, arith, Ok}
use mathlib.Core.Path.{subst⁻¹}
use Rattle.domain.specs.Model.{Model, Lawful, OutcomeRefines, Outcome, trap}
use Rattle.semantics.specs.Programs.{Env, value, step, nothing_yet, outcome, All}
use Rattle.semantics.specs.Rules.{target_of, source_of, Match, Matched}
use Rattle.semantics.proofs.Members.{not_in, Each}
use Rattle.semantics.proofs.Choices.{gather}
use Rattle.semantics.proofs.Solutions.{Ends, goes, traps, ends}
use Rattle.semantics.proofs.Splice.{spliced_cases, spliced_new}
use Rattle.semantics.proofs.Sides.{listed, listed_at, matched_step, matched_solves}
use Rattle.semantics.proofs.Homes.{rehomed, stands_home, home_stands}
use Rattle.semantics.proofs.Fitting.{Fitting, sources, targets, gone, home_of, new_block, new, source_matched, place}
use Rattle.semantics.proofs.Rewritten.{last_home, ordered_new, has_result_new}
use Rattle.semantics.proofs.Beside.{Beside, variable_same, refined, kept_goes}

-- everything refines a trap
below_trap : (m : Model) (o : Outcome) → OutcomeRefines m o trap
below_trap m (Ok v) = tt
below_trap m trap = tt

code_is_no_trap : (o : Outcome) (v : ℕ) → o ≡ Ok v → o ≡ trap → ⊥
code_is_no_trap o v e t = let z : ◌≡◌ {A = ℕ} 0 1 = cc in omega arith

-- the match of the target in the new body
abbrev moves : {m : Model} → Fitting m → Match
moves c = rehomed c.match (home_of c)

-- the values of a rule's variables
abbrev pub vars : {m : Model} → Fitting m → List ℕ → Env → List ℕ
vars c ins ρ = listed c.rule.variables (λ v. value ins ρ (c.match.operand_of v))

-- the outcome of the target, as a program, with the choices that the new program makes in the block
abbrev pub target_outcome : {m : Model} → Fitting m → List ℕ → (ℕ → ℕ) → Outcome
target_outcome {m} c vs f = outcome m (target_of c.rule) vs (gather (targets c) (λ j. f (home_of c j)))

-- the outcome of the source, as a program, with the choices that the old program makes in the matches
abbrev pub source_outcome : {m : Model} → Fitting m → List ℕ → (ℕ → ℕ) → Outcome
source_outcome {m} c vs g = outcome m (source_of c.rule) vs (gather (sources c) (λ j. g (c.match.record_of j)))

module _ {m : Model} (c : Fitting m) where
  target_matched : Each (targets c) (λ j t. Matched (moves c) (new c).body (record { at = j; what = t }))
  target_matched j t there =
      let (i, stands, alike) = stands_home c.match (home_of c) (targets c) j t there in
      (i, spliced_new (gone c) c.at (new_block c) c.old.body (place c) (home_of c j) i stands, alike)

module _ {m : Model} {c : Fitting m} {ins : List ℕ} {f : ℕ → ℕ} {ρ : Env} {g : ℕ → ℕ} {σ : Env} (b : Beside c ins f ρ g σ) where
  var_new : (v : ℕ) → v < c.rule.variables → get_or (vars c ins ρ) v 0 ≡ value ins ρ (c.match.operand_of v)
  var_new = listed_at c.rule.variables (λ v. value ins ρ (c.match.operand_of v))

  var_old : (v : ℕ) → v < c.rule.variables → get_or (vars c ins ρ) v 0 ≡ value ins σ (c.match.operand_of v)
  var_old v l = var_new v l ∙ variable_same b v l

  -- how the target ends, over the values of the new body
  target_ends : Ends m (vars c ins ρ) (λ j. ρ (home_of c j)) (λ j. f (home_of c j)) (targets c) (length c.rule.target) (target_outcome c (vars c ins ρ) f)
  target_ends =
      let side = c.made.target_formed in
      ends m c.rule.variables (vars c ins ρ) _ _ (length c.rule.target) [] (targets c) side.ordered
      (matched_solves m (moves c) ins ρ c.rule.variables (vars c ins ρ) var_new f (new c).body (targets c) side.ordered (target_matched c) b.solves_new)
      nothing_yet (λ k h. absurd h) (inr side.has_result)

  -- how the source ends, over the values of the old body
  source_ends : Ends m (vars c ins ρ) (λ j. σ (c.match.record_of j)) (λ j. g (c.match.record_of j)) (sources c) (length c.rule.source) (source_outcome c (vars c ins ρ) g)
  source_ends =
      let side = c.made.source_formed in
      ends m c.rule.variables (vars c ins ρ) _ _ (length c.rule.source) [] (sources c) side.ordered
      (matched_solves m c.match ins σ c.rule.variables (vars c ins ρ) var_old g c.old.body (sources c) side.ordered (source_matched c) b.solves_old)
      nothing_yet (λ k h. absurd h) (inr side.has_result)

  -- where the old program goes through, so does the source
  source_goes : Each c.old.body (λ q i. step m (value ins σ) i (g q) ≡ Ok (σ q)) → Each (sources c) (λ j s. step m (value (vars c ins ρ) (λ j. σ (c.match.record_of j))) s (g (c.match.record_of j)) ≡ trap → ⊥)
  source_goes all j s there ends =
      let (i, stands, alike) = source_matched c j s there in
      let same = matched_step m c.match ins σ c.rule.variables (vars c ins ρ) var_old (sources c) c.made.source_formed.ordered j s there i alike (g (c.match.record_of j)) in
      code_is_no_trap _ _ (all (c.match.record_of j) i stands) (same ∙ ends)

  -- where the target goes through, so does the block
  block_goes : Each (targets c) (λ j t. step m (value (vars c ins ρ) (λ j. ρ (home_of c j))) t (f (home_of c j)) ≡ Ok (ρ (home_of c j))) → Each (new_block c) (λ q i. step m (value ins ρ) i (f q) ≡ trap → ⊥)
  block_goes all q i s ends =
      let (j, t, there, e, alike) = home_stands c.match (home_of c) (targets c) q i s in
      let same = matched_step m (moves c) ins ρ c.rule.variables (vars c ins ρ) var_new (targets c) c.made.target_formed.ordered j t there i alike (f (home_of c j)) in
      code_is_no_trap _ _ (same ∙ all j t there) (subst⁻¹ (λ z. step m (value ins ρ) i (f z) ≡ trap) e ends)

  -- the new outcome refines the old one, if the target's refines the source's
  pub refines_whole : Lawful m → All (λ d. d < m.size) ins → OutcomeRefines m (target_outcome c (vars c ins ρ) f) (source_outcome c (vars c ins ρ) g) →
      OutcomeRefines m (outcome m (new c) ins (gather (new c).body f)) (outcome m c.old ins (gather c.old.body g))
  refines_whole law codes sides =
      go
      (ends m c.old.inputs ins σ g c.old.result [] c.old.body c.formed.ordered b.solves_old nothing_yet (λ k h. absurd h) (inr c.formed.has_result))
      source_ends target_ends
      (ends m c.old.inputs ins ρ f c.old.result [] (new c).body (ordered_new c) b.solves_new nothing_yet (λ k h. absurd h) (inr (has_result_new c)))
    where
      go : Ends m ins σ g c.old.body c.old.result (outcome m c.old ins (gather c.old.body g)) →
          Ends m (vars c ins ρ) (λ j. σ (c.match.record_of j)) (λ j. g (c.match.record_of j)) (sources c) (length c.rule.source) (source_outcome c (vars c ins ρ) g) →
          Ends m (vars c ins ρ) (λ j. ρ (home_of c j)) (λ j. f (home_of c j)) (targets c) (length c.rule.target) (target_outcome c (vars c ins ρ) f) →
          Ends m ins ρ f (new c).body c.old.result (outcome m (new c) ins (gather (new c).body f)) →
          OutcomeRefines m (outcome m (new c) ins (gather (new c).body f)) (outcome m c.old ins (gather c.old.body g))
      go (traps q i s t e) source target whole = subst⁻¹ (OutcomeRefines m (outcome m (new c) ins (gather (new c).body f))) e (below_trap m _)
      go (goes all e) (traps j s there t e1) target whole = absurd (source_goes all j s there t)
      go (goes all e) (goes all1 e1) (traps j t there ends e2) whole = absurd (subst₂ (OutcomeRefines m) e2 e1 sides)
      go (goes all e) (goes all1 e1) (goes all2 e2) whole =
          elim whole [
            | traps q i s t e3 ↦ absurd (⊎_elim (λ k. kept_goes b law codes all met q i k.0 k.1 t) (λ new. block_goes all2 q i new t) (spliced_cases (gone c) c.at (new_block c) c.old.body q i s))
            | goes all3 e3 ↦ subst₂ (OutcomeRefines m) (sym e3) (sym e) (refined b law codes all met c.old.result c.formed.has_result (not_in c.old.result (gone c) c.fits.no_result))
          ]
        where
          met : T (m.refines (ρ c.at) (σ c.at))
          met = subst₂ (λ x y. T (m.refines (ρ x) (σ y))) (last_home c) c.fits.at_last (subst₂ (OutcomeRefines m) e2 e1 sides)
