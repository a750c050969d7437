use Rattle.semantics.specs.Programs.{outcome}
use Rattle.semantics.specs.Values.{env}
use Rattle.program.specs.View.{view}
use Rattle.program.specs.Windows.{shown}
use Rattle.program.proofs.Running.{Running}
use Rattle.program.proofs.table.Table.run.Given as goal

abbrev pub invariant-loop-at : goal.invariant-loop-at
invariant-loop-at g l =
    Running (g.D.Domain.model l.run.domain.now) l.self.result l.run.inputs.now (shown l.at-iterator) (env l.run.values) l.run.choices.now
    (outcome (g.D.Domain.model l.domain) (view l.self).program l.inputs l.choices)
