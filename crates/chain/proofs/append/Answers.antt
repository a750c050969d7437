use Rattle.std.proofs.Common.{map}
use Rattle.chain.proofs.Relinks.{zero_apart}
use Rattle.chain.proofs.Places.{before_zero}
use Rattle.chain.proofs.append.Goals as goal

pub returns-clause-links : goal.returns-clause-links
returns-clause-links g c =
    let links = map g.R.Linked.successor c.args.records.now in
    let e = c.insert_before.ensures.links in
    record {
      chain = λ ks h. rw (← before_zero c.args.at ks (zero_apart links c.args.first ks h)) (e.chain ks h);
      others = e.others;
    }
