use Rattle.std.proofs.Common.{◌≡◌, length}
use Rattle.scan.specs.Pieces.{left}
use Rattle.script.specs.Commands.{marked}
use Rattle.script.proofs.command.computing.compute_command.Given as goal

-- what is left gives the command
abbrev pub invariant-loop-word : goal.invariant-loop-word
invariant-loop-word l = marked l.op l.marks.bits (left l.words) ≡ marked l.op 0 (left l.initial.words)

abbrev pub decreases-loop-word : goal.decreases-loop-word
decreases-loop-word l = length (left l.words)
