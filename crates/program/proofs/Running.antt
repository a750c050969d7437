-- A run along the program, an instruction at a time. Assumes nothing.
use Rattle.std.proofs.Common.{◌≡◌, ℕ, ◌<◌, List, ◌∷◌, sym, ap, ◌∙◌, subst, Ok}
use Rattle.std.specs.List.{AllByRecursion}
use Rattle.domain.specs.Model.{Model, Outcome, trap}
use Rattle.semantics.specs.Programs.{Env, Placed, run}
use Rattle.semantics.specs.Runs.{RunsOn}

-- what is left to run gives what the whole gives
pub record Running (m : Model) (result : ℕ) (ins : List ℕ) (body : List Placed) (ρ : Env) (cs : List ℕ) (whole : Outcome) : Type 0 where
  pub within : AllByRecursion (λ x. x.at < 65) body
  pub same : run m ins result body ρ cs ≡ whole

-- an instruction evaluated
module _ (m : Model) (result : ℕ) (ins : List ℕ) (body : List Placed) (ρ : Env) (cs : List ℕ) (whole : Outcome) (x : Placed) (rest : List Placed) (r : Running m result ins body ρ cs whole) (e : body ≡ x ∷ rest) where
  pub first_within : x.at < 65
  first_within = (subst (AllByRecursion (λ x. x.at < 65)) e r.within).0

  opens : run m ins result (x ∷ rest) ρ cs ≡ whole
  opens = ap (λ l. run m ins result l ρ cs) (sym e) ∙ r.same

  pub traps : ((k : ℕ) (xs : List Placed) → run m ins k (x ∷ xs) ρ cs ≡ trap) → trap ≡ whole
  traps h = sym (h result rest) ∙ opens

  pub goes_on : (σ : Env) (ds : List ℕ) (u : Unit {0}) → RunsOn m ins x ρ cs σ ds (Ok u) → Running m result ins rest σ ds whole
  goes_on σ ds u h = record { within = (subst (AllByRecursion (λ x. x.at < 65)) e r.within).1; same = sym (h result rest) ∙ opens }
