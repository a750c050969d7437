-- A bench by the state that calls are defined on, and its answers as theirs. Assumes nothing.
use Rattle.std.specs.Prelude.{[], Ok, Err, Result}
use Rattle.std.specs.Option.{option_map}
use Rattle.semantics.specs.Cases.{from}
use Rattle.program.specs.View.{view}
use Rattle.calls.specs.Bench.{State, empty, Answer}
use Rattle.bench.specs.declared.bench.Bench.{Bench}
use Rattle.bench.specs.declared.fault.BenchFault.{BenchFault}
use Rattle.bench.specs.Faults.{bench_fault}
use Rattle.domain.specs.Model.{Outcome}

-- no rule is drafted or entered
abbrev pub state : {D : Type 0} → Bench D → State
state b = record { slots = λ s. empty; free = from 1 32; book = []; loaded = option_map view b.program }

abbrev pub load_answer : Result (Unit {0}) BenchFault → Answer
load_answer (Ok u) = Answer.loaded
load_answer (Err f) = Answer.refused (bench_fault f)

abbrev pub evaluate_answer : Result Outcome BenchFault → Answer
evaluate_answer (Ok o) = Answer.evaluated o
evaluate_answer (Err f) = Answer.refused (bench_fault f)
