-- What evaluating refuses. Assumes nothing.
use Rattle.std.specs.Prelude.{ℕ, Ok, Err, Result}
use Rattle.semantics.specs.Programs.{Evaluated, evaluated, unevaluated}
use Rattle.program.specs.declared.fault.EvaluateFault.{EvaluateFault}
use Rattle.program.specs.declared.fault.EvaluateFault.TheVariants.{WrongCount, WrongCode}
use Rattle.domain.specs.Model.{Outcome}

-- the number by which a refusal is told
abbrev pub fault_number : EvaluateFault → ℕ
fault_number WrongCount = 20
fault_number WrongCode = 21

-- an answer as `evaluation` gives it
abbrev pub answered : Result Outcome EvaluateFault → Evaluated
answered (Ok o) = evaluated o
answered (Err f) = unevaluated (fault_number f)
