use Rattle.std.proofs.Common.{◌≡◌, map, arith}
use Rattle.chain.specs.Chains.{relink, link}
use Rattle.chain.proofs.Relinks.{by_links}
use Rattle.chain.proofs.Insertions.{inserted}
use Rattle.chain.proofs.OnlyLinks.{and_then}
use Rattle.chain.proofs.insert_after.Goals as goal

pub returns-clause-links : goal.returns-clause-links
returns-clause-links g c =
    let s = g.R.Linked.successor in
    let rs = c.args.records.now in
    let p = c.args.place in
    let k = c.args.at in
    let e : map s c.link_to-2.new.records ≡ relink (relink (map s rs) k (link (map s rs) p)) p k = cc in
    rw e (inserted (map s rs) p k (by_links s rs p c.requires.behind) (by_links s rs k c.requires.within) c.requires.other)

pub returns-clause-rest : goal.returns-clause-rest
returns-clause-rest g c =
    let m = g.met.R.Linked in
    and_then g.R.Linked.successor g.R.Linked.relinked m.reads m.again m.same c.args.records.now c.link_to.new.records c.link_to-2.new.records (omega arith) c.link_to.ensures.rest c.link_to-2.ensures.rest
