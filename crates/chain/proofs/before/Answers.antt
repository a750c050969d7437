use Rattle.std.proofs.Common.{ℕ, not, eqb, unwrap_or, take_while, None, ap, ◌∙◌, rules}
use borrow.Author.Tests.{tests}
use Rattle.std.specs.List.{last_or}
use Rattle.std.proofs.lemmas.Iterator.{YieldsList-from_map}
use Rattle.std.proofs.lemmas.Iterator.Consumers.{YieldsList-from_first, YieldsList-at}
use Rattle.std.proofs.lemmas.Iterator.Search.{YieldsList-from_take_while}
use Rattle.chain.specs.Links.{links_left}
use Rattle.chain.specs.Records.{records_at}
use Rattle.chain.proofs.Walks.{walks}
use Rattle.chain.proofs.Steps.{numbers}
use Rattle.chain.proofs.Searches.{last_before, last_from_yields_list}
use Rattle.chain.proofs.before.Goals as goal

pub returns : goal.returns
returns g c ks h =
    let rs = c.args.records.now in
    let test = λ (k : ℕ). not (eqb k c.args.wanted) in
    let last = last_from_yields_list _ c.last.ensures.ran
    (YieldsList-from_take_while _ test
    (YieldsList-at c.take_while.ensures.source (YieldsList-from_map _ (λ p. p.0)
    (YieldsList-at c.map.ensures.source (YieldsList-from_first (λ x. (x.0, x.1.now)) links_left (records_at rs ks) (c.iter.ensures ∙ ap (records_at rs) (walks _ _ ks h))))
    c.map.ensures.closure (λ x r q k. search rules)))
    c.take_while.ensures.closure c.take_while.ensures.done (λ x b q k. search (rules, tests)))
    in
    let numbered = ap (λ l. last_or None (take_while test l)) (numbers g.R.Linked.successor rs c.args.first ks h) in
    c.unwrap_or.ensures ∙ ap (λ o. unwrap_or o 0) (last ∙ numbered) ∙ last_before c.args.wanted None ks
