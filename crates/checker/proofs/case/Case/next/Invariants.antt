use Rattle.checker.specs.Walks.{sets}
use Rattle.checker.proofs.Walks.{Carried}
use Rattle.checker.proofs.case.Case.next.Given as goal

abbrev pub invariant-loop-place : goal.invariant-loop-place
invariant-loop-place g l =
    let s = l.fn.self in
    Carried (sets (g.D.Domain.model l.codes.domain.now) s.variable_count s.choice_count) s.digits l.digits l.place
