use Rattle.std.proofs.Common.{◌-◌, map, get_or, set, ap, ◌∙◌, arith}
use Rattle.std.proofs.lemmas.List.{map-set}
use Rattle.chain.proofs.OnlyLinks.{one}
use Rattle.chain.proofs.link_to.Goals as goal

pub returns-clause-links : goal.returns-clause-links
returns-clause-links g c =
    let s = g.R.Linked.successor in
    let rs = c.args.records.now in
    let k = c.args.at - 1 in
    map-set s rs k c.link.new.self ∙ ap (set (map s rs) k) (ap s c.link.ensures ∙ g.met.R.Linked.reads _ c.args.to)

pub returns-clause-rest : goal.returns-clause-rest
returns-clause-rest g c =
    let m = g.met.R.Linked in
    let rs = c.args.records.now in
    let x = c.index-records-at.result in
    rw c.link.ensures (one g.R.Linked.successor g.R.Linked.relinked m.reads m.again m.same rs (c.args.at - 1) c.args.to (get_or rs (c.args.at - 1) x) (ap (λ d. get_or rs (c.args.at - 1) d) c.index-records-at.is) (omega arith))
