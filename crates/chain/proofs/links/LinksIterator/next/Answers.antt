use Rattle.std.proofs.Common.{rules}
use Rattle.chain.proofs.Walks.{ends_to, ends_from}
use Rattle.chain.proofs.Steps.{shows_nothing, within, ends, shows}
use Rattle.chain.proofs.links.LinksIterator.next.Goals as goal

pub returns-then-at-eq0-clause-steps : goal.returns-then-at-eq0-clause-steps
returns-then-at-eq0-clause-steps g c = let e = shows_nothing g.R.Linked.successor _ _ (ends_to _ _ c.args.self.now.chain) c.if-at-eq0.true in search rules

pub offset_bounds-self-at : goal.offset_bounds-self-at
offset_bounds-self-at g c = let h = within g.R.Linked.successor _ _ (ends_to _ _ c.args.self.now.chain) c.if-at-eq0.false in search rules

pub bounds-self-at : goal.bounds-self-at
bounds-self-at g c = within g.R.Linked.successor _ _ (ends_to _ _ c.args.self.now.chain) c.if-at-eq0.false

pub invariant_of-self : goal.invariant_of-self
invariant_of-self g c =
    record { chain = ends_from _ _ (ends g.R.Linked.successor _ _ (ends_to _ _ c.args.self.now.chain) c.if-at-eq0.false c.index-self-at.result _ c.next-self.ensures) }

pub returns-clause-steps : goal.returns-clause-steps
returns-clause-steps g c = shows g.R.Linked.successor _ _ (ends_to _ _ c.args.self.now.chain) c.if-at-eq0.false c.index-self-at.result _ c.next-self.ensures

pub returns-clause-goes : goal.returns-clause-goes
returns-clause-goes g c = let e = shows g.R.Linked.successor _ _ (ends_to _ _ c.args.self.now.chain) c.if-at-eq0.false c.index-self-at.result _ c.next-self.ensures in search rules
