use Rattle.std.proofs.Common.{length}
use Rattle.script.proofs.Passing.{Passed}
use Rattle.script.proofs.texts.split_text.Given as goal

abbrev pub invariant-loop-line : goal.invariant-loop-line
invariant-loop-line l = Passed l.script l.rest l.lines

abbrev pub decreases-loop-line : goal.decreases-loop-line
decreases-loop-line l = length l.rest
