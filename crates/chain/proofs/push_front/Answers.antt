use Rattle.std.proofs.Common.{◌∷◌, map, sym, subst}
use Rattle.chain.specs.Chains.{Chained}
use Rattle.chain.proofs.Relinks.{stay, pushed, by_links}
use Rattle.chain.proofs.push_front.Goals as goal

pub returns-clause-chain : goal.returns-clause-chain
returns-clause-chain g c ks a h =
    let s = g.R.Linked.successor in
    let rs = c.args.records.now in
    let at = c.args.at in
    subst (λ l. Chained l at (at ∷ ks)) (sym c.link_to.ensures.links) (pushed (map s rs) at c.args.first ks (by_links s rs at c.requires) a h)

pub returns-clause-others : goal.returns-clause-others
returns-clause-others g c first ks a h =
    rw c.link_to.ensures.links (stay (map g.R.Linked.successor c.args.records.now) c.args.at c.args.first c.requires.low first ks a.0 h)
