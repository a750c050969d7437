use Rattle.std.proofs.Common.{◌+◌, ◌≤◌}
use Rattle.chain.proofs.Rising.{Risen}
use Rattle.chain.proofs.rise.Given as goal

abbrev pub invariant-loop-at : goal.invariant-loop-at
invariant-loop-at g l = (l.low ≤ l.at + 1) × Risen g.R.Linked.successor g.R.Linked.relinked l.initial.records l.records l.high l.first l.at
