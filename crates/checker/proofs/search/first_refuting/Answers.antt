use Rattle.copy_vec.specs.Items.{items}
use Rattle.std.proofs.Common.{◌≡◌, ◌<◌, Some, None, map, length, sym, subst, ap, ◌∙◌, arith}
use Rattle.semantics.specs.Cases.{freezes_in, as_case, entries, refutes, first, first_refuting}
use Rattle.semantics.specs.Held.{rule_of}
use Rattle.semantics.proofs.Search.{checking_exact}
use Rattle.checker.specs.Shown.{case_of}
use Rattle.checker.specs.Walks.{first_digits}
use Rattle.checker.proofs.Searches.{Shaped, upcoming, starts, fewer, stays_shaped, refuted, passed}
use Rattle.checker.proofs.search.first_refuting.Goals as goal

pub loop-next-init : goal.loop-next-init
loop-next-init g c =
    let k = c.of-codes.result in
    let m = g.D.Domain.model k.domain.now in
    let r = rule_of c.args.rule.now in
    let told = c.first.ensures in
    let some : 0 < m.size = omega (arith, (g.met.D.Domain.lawful k.domain.now).least_size) in
    let same_variables = told.variables ∙ c.variables.ensures in
    let same_choices = told.choices ∙ c.count_freezes-2.ensures.value ∙ ap (λ s. freezes_in (items s)) c.target.ensures in
    let same_digits = told.digits ∙ ap (λ n. first_digits n k.least) c.variables.ensures in (
      (same_variables, same_choices),
      ap (λ l. first (refutes m r) (map (as_case r) l)) (starts m k.size k.least r.variables (freezes_in r.target) c.first.result some k.known same_variables same_choices same_digits),
    )

pub returns-then-refutes : goal.returns-then-refutes
returns-then-refutes g c =
    let d = c.args.domain.now in
    let m = g.D.Domain.model c.of-codes.result.domain.now in
    let r = rule_of c.args.rule.now in
    let inv = subst (λ o. Shaped r.variables (freezes_in r.target) o × (first (refutes m r) (map (as_case r) (upcoming (entries m r) o)) ≡ first_refuting m r)) c.in-Some.is c.loop-next.invariant in
    record {
      value = subst (λ e. Some (case_of c.in-Some.case) ≡ first_refuting (g.D.Domain.model e) r) c.of-codes.ensures (refuted m r c.in-Some.case inv.0.0 inv.0.1 _ inv.1 c.if-refutes.ensures);
      exact = checking_exact (g.D.Domain.model d) (g.met.D.Domain.lawful d) r;
    }

pub returns : goal.returns
returns g c =
    let d = c.args.domain.now in
    let m = g.D.Domain.model c.of-codes.result.domain.now in
    let r = rule_of c.args.rule.now in
    record {
      value = subst (λ e. None ≡ first_refuting (g.D.Domain.model e) r) c.of-codes.ensures (subst (λ o. first (refutes m r) (map (as_case r) (upcoming (entries m r) o)) ≡ first_refuting m r) c.in_default.is c.loop-next.invariant.1);
      exact = checking_exact (g.D.Domain.model d) (g.met.D.Domain.lawful d) r;
    }

pub loop-next-preserved : goal.loop-next-preserved
loop-next-preserved g c =
    let m = g.D.Domain.model c.of-codes.result.domain.now in
    let r = rule_of c.args.rule.now in
    let inv = subst (λ o. Shaped r.variables (freezes_in r.target) o × (first (refutes m r) (map (as_case r) (upcoming (entries m r) o)) ≡ first_refuting m r)) c.in-Some.is c.loop-next.invariant in (
      stays_shaped m r.variables (freezes_in r.target) c.in-Some.case inv.0.0 inv.0.1 c.next-next.result c.next-next.ensures,
      passed m r c.in-Some.case inv.0.0 inv.0.1 _ inv.1 c.next-next.result c.next-next.ensures c.if-refutes.ensures,
    )

pub loop-next-smaller : goal.loop-next-smaller
loop-next-smaller g c =
    let m = g.D.Domain.model c.of-codes.result.domain.now in
    let r = rule_of c.args.rule.now in
    let shaped = subst (Shaped r.variables (freezes_in r.target)) c.in-Some.is c.loop-next.invariant.0 in
    subst (λ o. length (upcoming (entries m r) c.next-next.result) < length (upcoming (entries m r) o)) (sym c.in-Some.is)
    (fewer m r.variables (freezes_in r.target) c.in-Some.case shaped.0 shaped.1 c.next-next.result c.next-next.ensures)
