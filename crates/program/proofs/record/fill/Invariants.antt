use Rattle.std.proofs.Common.{◌≡◌, take}
use Rattle.program.specs.View.{instructions}
use Rattle.program.proofs.record.fill.Given as goal

abbrev pub invariant-loop-i : goal.invariant-loop-i
invariant-loop-i l = take l.i (instructions l.records) ≡ take l.i l.instructions
