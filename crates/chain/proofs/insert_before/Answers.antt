use Rattle.std.proofs.Common.{ℕ, List, map}
use Rattle.chain.specs.Chains.{Chained}
use Rattle.chain.proofs.Relinks.{among_within, apart_among, by_records}
use Rattle.chain.proofs.Insertions.{goes_first, goes_behind, misses, inserts_others}
use Rattle.chain.proofs.insert_before.Goals as goal

pub returns-then-last-eq0-clause-links : goal.returns-then-last-eq0-clause-links
returns-then-last-eq0-clause-links g c =
    let links = map g.R.Linked.successor c.args.records.now in
    let first = c.args.first in
    let at = c.args.at in
    let e = c.push_front.ensures in
    record {
      chain = λ ks h.
          rw (e.value, goes_first links first c.args.place at c.before-last.result c.before-last.ensures ks h c.if-last-eq0.true)
          (e.chain ks (misses links first at c.requires.misses ks h) h);
      others = λ ks h f js a d. e.others f js (a.0, tt) d;
    }

pub insert_after-requires-clause-behind : goal.insert_after-requires-clause-behind
insert_after-requires-clause-behind g c =
    let links = map g.R.Linked.successor c.args.records.now in
    let last = c.before-last.result in
    let m = c.requires.misses in
    let i = goes_behind links c.args.first c.args.place c.args.at last c.before-last.ensures m.0 m.1 c.if-last-eq0.false in
    by_records g.R.Linked.successor c.args.records.now last (among_within links last c.args.first m.0 i.0 m.1)

pub insert_after-requires-clause-other : goal.insert_after-requires-clause-other
insert_after-requires-clause-other g c =
    let links = map g.R.Linked.successor c.args.records.now in
    let last = c.before-last.result in
    let m = c.requires.misses in
    let i = goes_behind links c.args.first c.args.place c.args.at last c.before-last.ensures m.0 m.1 c.if-last-eq0.false in
    apart_among last c.args.at m.0 m.2 i.0

pub returns-clause-links : goal.returns-clause-links
returns-clause-links g c =
    let links = map g.R.Linked.successor c.args.records.now in
    let after = map g.R.Linked.successor c.insert_after.new.records in
    let first = c.args.first in
    let at = c.args.at in
    let last = c.before-last.result in
    let e = c.insert_after.ensures in
    let i = λ (ks : List ℕ) (h : Chained links first ks). goes_behind links first c.args.place at last c.before-last.ensures ks h c.if-last-eq0.false in
    record {
      chain = λ ks h. rw (← (i ks h).1) (e.links first ks (misses links first at c.requires.misses ks h) h);
      others = λ ks h. inserts_others links after last at ks (i ks h).0 e.links;
    }
