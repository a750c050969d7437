use Rattle.copy_vec.specs.Items.{items}
use Rattle.std.proofs.Common.{◌≡◌, length, replicate}
use Rattle.semantics.specs.Cases.{tuples, settled_codes, none}
use Rattle.checker.specs.Shown.{allows}
use Rattle.checker.proofs.Searches.{upcoming, Shaped}
use Rattle.checker.proofs.search.unmatched.Given as goal

-- the choices that are left decide
abbrev pub invariant-loop-next : goal.invariant-loop-next
invariant-loop-next g l =
    let m = g.D.Domain.model l.codes.domain.now in
    let f = l.fn.choices.choice_count in
    let ds = replicate f (settled_codes m) in
    let t = allows m l.ours (items l.source) l.variables in
    Shaped 0 f l.next × (none t (upcoming ds l.next) ≡ none t (tuples ds))

abbrev pub decreases-loop-next : goal.decreases-loop-next
decreases-loop-next g l = length (upcoming (replicate l.fn.choices.choice_count (settled_codes (g.D.Domain.model l.codes.domain.now))) l.next)
