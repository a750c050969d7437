-- What calls answer where a program is loaded.
use Rattle.std.proofs.Common.{◌≡◌, ℕ, List, Some, None, Option, refl, ap, ◌∙◌}
use Rattle.domain.specs.Model.{Model, Lawful, Outcome}
use Rattle.semantics.specs.Programs.{Evaluated, evaluated, unevaluated, evaluation}
use Rattle.semantics.specs.Changes.{Loaded}
use Rattle.calls.specs.Bench.{State, Call, Answer, evaluate_answer, evaluate_loaded}
use Rattle.calls.specs.Histories.{answer, next, Promised}
use Rattle.calls.proofs.OneCall.{promised}

pub evaluated_at : (m : Model) (st : State) (l : Loaded) (ins cs : List ℕ) (o : Outcome) → st.loaded ≡ Some l → evaluation m l.program ins cs ≡ evaluated o → answer m st (Call.evaluate ins cs) ≡ Answer.evaluated o
evaluated_at m st l ins cs o held e = ap (λ x. (evaluate_loaded m st ins cs x).0) held ∙ ap (λ x. (evaluate_answer st x).0) e

-- evaluating leaves the state as it was
pub evaluating_leaves : (m : Model) (st : State) (ins cs : List ℕ) → st ≡ next m st (Call.evaluate ins cs)
evaluating_leaves m st ins cs = program st.loaded
  where
    answered : (x : Evaluated) → st ≡ (evaluate_answer st x).1
    answered (evaluated o) = refl
    answered (unevaluated k) = refl

    program : (l : Option Loaded) → st ≡ (evaluate_loaded m st ins cs l).1
    program None = refl
    program (Some l) = answered (evaluation m l.program ins cs)

-- and so keeps what was loaded
pub evaluating_keeps : (m : Model) → Lawful m → (st : State) (ins cs : List ℕ) → Promised m st (Call.evaluate ins cs) st
evaluating_keeps m law st ins cs = promised m law st (Call.evaluate ins cs) st (evaluating_leaves m st ins cs)
