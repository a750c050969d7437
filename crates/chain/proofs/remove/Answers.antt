use Rattle.std.proofs.Common.{◌≡◌, ℕ, List, map, sym, subst}
use Rattle.chain.specs.Chains.{Chained, relink, link}
use Rattle.chain.specs.Places.{without}
use Rattle.chain.proofs.Relinks.{among_within, relinks_others, by_records}
use Rattle.chain.proofs.Removals.{first_gone, led_past}
use Rattle.chain.proofs.OnlyLinks.{none}
use Rattle.chain.proofs.remove.Goals as goal

pub next_of-next-requires : goal.next_of-next-requires
next_of-next-requires g c =
    let s = g.R.Linked.successor in
    let rs = c.args.records.now in
    by_records s rs c.args.at (among_within (map s rs) c.args.at c.args.first c.requires.0 c.requires.2 c.requires.1)

pub returns-then-last-eq0-clause-links : goal.returns-then-last-eq0-clause-links
returns-then-last-eq0-clause-links g c =
    let links = map g.R.Linked.successor c.args.records.now in
    record {
      chain = λ ks h. subst (λ f. Chained links f (without c.args.at ks)) (sym c.next_of-next.ensures) (first_gone links c.args.first c.args.at c.before-last.result c.requires c.before-last.ensures ks h c.if-last-eq0.true);
      others = λ ks h first js a d. d;
    }

pub returns-then-last-eq0-clause-rest : goal.returns-then-last-eq0-clause-rest
returns-then-last-eq0-clause-rest g c =
    let m = g.met.R.Linked in
    none g.R.Linked.successor g.R.Linked.relinked m.reads m.again m.same c.args.records.now

pub link_to-requires : goal.link_to-requires
link_to-requires g c =
    let s = g.R.Linked.successor in
    let rs = c.args.records.now in
    let first = c.args.first in
    let last = c.before-last.result in
    let i = led_past (map s rs) first c.args.at last c.requires c.before-last.ensures c.requires.0 c.requires.1 c.if-last-eq0.false in
    by_records s rs last (among_within (map s rs) last first c.requires.0 i.0 c.requires.1)

pub returns-clause-links : goal.returns-clause-links
returns-clause-links g c =
    let links = map g.R.Linked.successor c.args.records.now in
    let first = c.args.first in
    let at = c.args.at in
    let last = c.before-last.result in
    let e : map g.R.Linked.successor c.link_to.new.records ≡ relink links last (link links at) = cc in
    let i = λ (ks : List ℕ) (h : Chained links first ks). led_past links first at last c.requires c.before-last.ensures ks h c.if-last-eq0.false in
    record {
      chain = λ ks h. rw e (i ks h).1;
      others = λ ks h. rw e (relinks_others links last (link links at) ks (among_within links last first ks (i ks h).0 h).low (i ks h).0);
    }
