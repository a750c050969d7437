use Rattle.copy_vec.specs.Items.{items}
use Rattle.std.proofs.Common.{◌≡◌, ◌<◌, length, replicate, refl, sym, subst, ap, ◌∙◌, arith}
use Rattle.semantics.specs.Programs.{outcome}
use Rattle.semantics.specs.Rules.{side}
use Rattle.semantics.specs.Cases.{none, outcome_refining, settled_codes, tuples}
use Rattle.checker.specs.Shown.{allows}
use Rattle.checker.proofs.Searches.{Shaped, upcoming, starts, fewer, stays_shaped, matched, missed}
use Rattle.checker.proofs.search.unmatched.Goals as goal

pub loop-next-init : goal.loop-next-init
loop-next-init g c =
    let k = c.args.codes.now in
    let m = g.D.Domain.model k.domain.now in
    let cs = c.args.choices in
    let some : 0 < m.size = omega (arith, (g.met.D.Domain.lawful k.domain.now).least_size) in
    ((c.requires.alone, refl), ap (none (allows m c.args.ours (items c.args.source.now) c.args.variables.now)) (starts m k.size k.least 0 cs.choice_count cs some k.known c.requires.alone refl c.requires.digits))

pub returns-then-outcome_refines : goal.returns-then-outcome_refines
returns-then-outcome_refines g c =
    let m = g.D.Domain.model c.args.codes.now.domain.now in
    let f = c.args.choices.choice_count in
    let vars = c.args.variables.now in
    let source = (items c.args.source.now) in
    let t = allows m c.args.ours source vars in
    let inv = subst (λ o. Shaped 0 f o × (none t (upcoming (replicate f (settled_codes m)) o) ≡ none t (tuples (replicate f (settled_codes m))))) c.in-Some.is c.loop-next.invariant in
    matched m c.args.ours source vars f c.in-Some.choices inv.0.0 inv.0.1 _ inv.1
    c.run_side-theirs.result c.choices.result.now c.choices.ensures
    (c.run_side-theirs.ensures ∙ ap (λ d. outcome (g.D.Domain.model d) (side (length vars) source) vars c.choices.result.now) c.domain.ensures)
    (c.if-outcome_refines.ensures ∙ ap (λ d. outcome_refining (g.D.Domain.model d) c.args.ours c.run_side-theirs.result) c.domain-in-Some.ensures)

pub returns : goal.returns
returns g c =
    let m = g.D.Domain.model c.args.codes.now.domain.now in
    let f = c.args.choices.choice_count in
    let t = allows m c.args.ours (items c.args.source.now) c.args.variables.now in
    subst (λ o. none t (upcoming (replicate f (settled_codes m)) o) ≡ none t (tuples (replicate f (settled_codes m)))) c.in_default.is c.loop-next.invariant.1

pub loop-next-preserved : goal.loop-next-preserved
loop-next-preserved g c =
    let m = g.D.Domain.model c.args.codes.now.domain.now in
    let f = c.args.choices.choice_count in
    let vars = c.args.variables.now in
    let source = (items c.args.source.now) in
    let t = allows m c.args.ours source vars in
    let inv = subst (λ o. Shaped 0 f o × (none t (upcoming (replicate f (settled_codes m)) o) ≡ none t (tuples (replicate f (settled_codes m))))) c.in-Some.is c.loop-next.invariant in (
      stays_shaped m 0 f c.in-Some.choices inv.0.0 inv.0.1 c.next-next.result c.next-next.ensures,
      missed m c.args.ours source vars f c.in-Some.choices inv.0.0 inv.0.1 _ inv.1
          c.run_side-theirs.result c.choices.result.now c.choices.ensures
          (c.run_side-theirs.ensures ∙ ap (λ d. outcome (g.D.Domain.model d) (side (length vars) source) vars c.choices.result.now) c.domain.ensures)
          c.next-next.result c.next-next.ensures
          (c.if-outcome_refines.ensures ∙ ap (λ d. outcome_refining (g.D.Domain.model d) c.args.ours c.run_side-theirs.result) c.domain-in-Some.ensures),
    )

pub loop-next-smaller : goal.loop-next-smaller
loop-next-smaller g c =
    let m = g.D.Domain.model c.args.codes.now.domain.now in
    let f = c.args.choices.choice_count in
    let shaped = subst (Shaped 0 f) c.in-Some.is c.loop-next.invariant.0 in
    subst (λ o. length (upcoming (replicate f (settled_codes m)) c.next-next.result) < length (upcoming (replicate f (settled_codes m)) o)) (sym c.in-Some.is)
    (fewer m 0 f c.in-Some.choices shaped.0 shaped.1 c.next-next.result c.next-next.ensures)
