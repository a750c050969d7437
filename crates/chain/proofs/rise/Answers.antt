use Rattle.std.proofs.Common.{◌-◌, arith, rules}
use Rattle.chain.proofs.Rising.{Risen, unrisen, rises}
use Rattle.chain.proofs.rise.Given.{Over}
use Rattle.chain.proofs.rise.Goals as goal
use Rattle.chain.proofs.rise.Goals.{After-push_front-first}

pub loop-at-init : goal.loop-at-init
loop-at-init g c =
    let m = g.met.R.Linked in
    (c.requires.order, unrisen g.R.Linked.successor g.R.Linked.relinked m.reads m.again m.same c.args.records.now c.args.high)

one_more : (g : Over) (c : After-push_front-first g) → Risen g.R.Linked.successor g.R.Linked.relinked c.args.records.now c.push_front-first.new.records c.args.high c.push_front-first.result (c.loop-at.at - 1)
one_more g c =
    let s = g.R.Linked.successor in
    let u = g.R.Linked.relinked in
    let m = g.met.R.Linked in
    let at = c.loop-at.at in
    let e = c.push_front-first.ensures in
    rw e.value (rises s u m.reads m.again m.same c.args.records.now c.loop-at.records c.push_front-first.new.records c.args.high c.loop-at.first at (omega arith) (omega arith) (omega arith) c.loop-at.invariant.1 e.chain e.others e.rest)

pub loop-at-preserved : goal.loop-at-preserved
loop-at-preserved g c = (omega arith, one_more g (goal.at.loop-at-preserved g c).After-push_front-first)

pub returns-2 : goal.returns-2
returns-2 g c = let r = one_more g (goal.at.returns-2 g c).After-push_front-first in search rules
