use Rattle.std.proofs.Common.{◌≡◌, map, length}
use Rattle.semantics.specs.Cases.{as_case, entries, refutes, first, first_refuting, freezes_in}
use Rattle.semantics.specs.Held.{rule_of}
use Rattle.checker.proofs.Searches.{upcoming, Shaped}
use Rattle.checker.proofs.search.first_refuting.Given as goal

-- the cases that are left decide
abbrev pub invariant-loop-next : goal.invariant-loop-next
invariant-loop-next g l =
    let m = g.D.Domain.model l.codes.domain.now in
    let r = rule_of l.rule in
    Shaped r.variables (freezes_in r.target) l.next × (first (refutes m r) (map (as_case r) (upcoming (entries m r) l.next)) ≡ first_refuting m r)

abbrev pub decreases-loop-next : goal.decreases-loop-next
decreases-loop-next g l = length (upcoming (entries (g.D.Domain.model l.codes.domain.now) (rule_of l.rule)) l.next)
