use Rattle.copy_vec.specs.Items.{items}
use Rattle.std.proofs.Common.{◌≡◌, ◌+◌, length, drop}
use Rattle.semantics.specs.Programs.{run, outcome}
use Rattle.semantics.specs.Rules.{numbered, side}
use Rattle.semantics.specs.Values.{env}
use Rattle.checker.proofs.side.run_side.Given as goal

-- what is left, run on from here, gives the outcome
abbrev pub invariant-loop-before : goal.invariant-loop-before
invariant-loop-before g l =
    run (g.D.Domain.model l.run.domain.now) l.run.inputs.now (length (items l.side)) (numbered (l.before + 1) (drop l.before l.instruction-items)) (env l.run.values) l.run.choices.now
    ≡ outcome (g.D.Domain.model l.domain) (side (length l.variables) (items l.side)) l.variables l.choices
