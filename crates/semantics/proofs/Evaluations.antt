-- An evaluation that is not refused is the outcome at inputs and choices of the program. Assumes nothing.
use Rattle.std.proofs.Common.{◌≡◌, ℕ, ◌<◌, Bool, true, false, cond, ◌&&◌, T, eqb, ltb, List, length, arith, eqb→eq, ltb→lt}
use Rattle.domain.specs.Model.{Model, Outcome}
use Rattle.semantics.specs.Programs.{Program, Inputs, Choices, all, freezes, outcome, evaluated, unevaluated, evaluation}
use Rattle.semantics.proofs.Reflect.{both, all_holds}

pub evaluated_inside : (m : Model) (p : Program) (ins cs : List ℕ) (o : Outcome) → evaluation m p ins cs ≡ evaluated o → Inputs m p ins × Choices m p cs × (outcome m p ins cs ≡ o)
evaluated_inside m p ins cs o e =
    go (eqb (length ins) p.inputs && eqb (length cs) (freezes p.body)) (all (λ c. ltb c m.size) ins && all m.settled cs) (both (eqb (length ins) p.inputs) _) (both (all (λ c. ltb c m.size) ins) _) e
  where
    go : (a b : Bool) → (T a → T (eqb (length ins) p.inputs) × T (eqb (length cs) (freezes p.body))) → (T b → T (all (λ c. ltb c m.size) ins) × T (all m.settled cs)) →
        cond a (cond b (evaluated (outcome m p ins cs)) (unevaluated 21)) (unevaluated 20) ≡ evaluated o → Inputs m p ins × Choices m p cs × (outcome m p ins cs ≡ o)
    go true true counts codes e = (
      record { count = eqb→eq (length ins) p.inputs (counts tt).0; codes = all_holds (λ c. ltb c m.size) (λ c. c < m.size) (λ c. ltb→lt c m.size) ins (codes tt).0 },
      record { count = eqb→eq (length cs) (freezes p.body) (counts tt).1; settled = all_holds m.settled (λ c. T (m.settled c)) (λ c t. t) cs (codes tt).1 },
      cc,
    )
    go true false counts codes e = let z : ◌≡◌ {A = ℕ} 0 1 = cc in absurd (omega arith)
    go false b counts codes e = let z : ◌≡◌ {A = ℕ} 0 1 = cc in absurd (omega arith)
