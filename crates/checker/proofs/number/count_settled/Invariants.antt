use Rattle.std.proofs.Common.{◌≡◌, ◌+◌, ◌-◌, ◌≤◌, length}
use Rattle.semantics.specs.Cases.{from, keep, settled_codes}
use Rattle.checker.proofs.number.count_settled.Given as goal

abbrev pub invariant-loop-code : goal.invariant-loop-code
invariant-loop-code g l =
    let m = g.D.Domain.model l.domain in
    (l.count ≤ l.code) × (l.count + length (keep m.settled (from l.code (m.size - l.code))) ≡ length (settled_codes m))
