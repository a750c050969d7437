use Rattle.std.proofs.Common.{◌≡◌, true, false, ◌||◌, sym, subst, arith, rules}
use Rattle.std.proofs.lemmas.Iterator.{first_from_Range}
use Rattle.semantics.specs.Cases.{from, keep}
use Rattle.checker.specs.Walks.{Follows}
use Rattle.checker.proofs.Above.{follows, set_passes}
use Rattle.checker.proofs.codes.Codes.next.Goals as goal

pub returns : goal.returns
returns g c =
    let s = c.args.self.now in
    let m = g.D.Domain.model s.domain.now in
    let law = g.met.D.Domain.lawful s.domain.now in
    let size = s.known.all_codes in
    subst (λ d. Follows d c.args.code c.find.result) (sym (set_passes m c.args.free))
    (subst (λ n. Follows (keep (λ x. c.args.free || m.settled x) (from 0 n)) c.args.code c.find.result) size
    (follows (λ x. c.args.free || m.settled x) s.size c.args.code c.saturating_add.result c.find.result
    (λ j a b. omega (arith, c.saturating_add.ensures)) (λ j a b. omega (arith, c.saturating_add.ensures, law.most_size, size))
    (first_from_Range _ _ _ _ (λ x. (c.args.free || m.settled x) ≡ true) (λ x. (c.args.free || m.settled x) ≡ false) c.find.ensures.ran (λ x q k. search rules) (λ x q k. (search rules, search rules)))))
