use Rattle.std.proofs.Common.{◌≡◌, true, false, rules}
use Rattle.std.proofs.lemmas.Iterator.{first_from_Range}
use Rattle.checker.proofs.Above.{settled_found, settled_first}
use Rattle.checker.proofs.codes.first_settled.Goals as goal

pub unwrap-requires : goal.unwrap-requires
unwrap-requires g c =
    let d = c.args.domain.now in
    let m = g.D.Domain.model d in
    settled_found m c.size.result c.size.ensures (g.met.D.Domain.lawful d) c.find.result
    (first_from_Range _ _ _ _ (λ x. m.settled x ≡ true) (λ x. m.settled x ≡ false) c.find.ensures.ran (λ x q k. search rules) (λ x q k. (search rules, search rules)))

pub returns : goal.returns
returns g c =
    let m = g.D.Domain.model c.args.domain.now in
    settled_first m c.size.result c.size.ensures c.find.result c.unwrap.result c.unwrap.ensures
    (first_from_Range _ _ _ _ (λ x. m.settled x ≡ true) (λ x. m.settled x ≡ false) c.find.ensures.ran (λ x q k. search rules) (λ x q k. (search rules, search rules)))
