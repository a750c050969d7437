use Rattle.std.proofs.Common.{length}
use Rattle.scan.specs.Pieces.{left}
use Rattle.reader.proofs.Marked.{Marked}
use Rattle.reader.proofs.form.read_marks.Given as goal

abbrev pub invariant-loop-mark : goal.invariant-loop-mark
invariant-loop-mark l = Marked l.permitted.bits l.marks (left l.words) (left l.initial.words)

abbrev pub decreases-loop-mark : goal.decreases-loop-mark
decreases-loop-mark l = length (left l.words)
