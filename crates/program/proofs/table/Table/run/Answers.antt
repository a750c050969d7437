use Rattle.std.proofs.Common.{◌<◌, sym, ap, subst, ◌∙◌, arith, rules}
use Rattle.std.specs.List.{AllByRecursion}
use Rattle.domain.proofs.Outcomes.{is_a_trap}
use Rattle.semantics.specs.Programs.{run, outcome}
use Rattle.semantics.specs.Values.{env}
use Rattle.program.specs.View.{view}
use Rattle.program.specs.Windows.{in_its_record, shown}
use Rattle.program.proofs.Running.{first_within, traps, goes_on}
use Rattle.program.proofs.Windows.{all_within}
use Rattle.program.proofs.table.Table.run.Goals as goal

pub loop-at-init : goal.loop-at-init
loop-at-init g c =
    let t = c.args.self.now in
    let e = c.new-run.ensures in
    let body = ap shown c.into_iter-at-iterator.ensures.into_iter_gives ∙ c.window-at-items.ensures in
    record {
      within = subst (AllByRecursion (λ x. x.at < 65)) (sym body) (all_within t);
      same = λ j. run (g.D.Domain.model (e.domain j)) (e.inputs j) t.result (body j) (e.values j) (e.choices j);
    }

pub take-requires : goal.take-requires
take-requires g c =
    let r = c.loop-at.run in
    (omega arith, first_within (g.D.Domain.model r.domain.now) _ r.inputs.now _ (env r.values) r.choices.now _ _ _ c.loop-at.invariant c.in-Some.ensures.steps)

pub returns-in_err-take : goal.returns-in_err-take
returns-in_err-take g c =
    let r = c.loop-at.run in
    is_a_trap c.from_residual.result c.from_residual.ensures.0 ∙
    traps (g.D.Domain.model r.domain.now) _ r.inputs.now _ (env r.values) r.choices.now _ _ _ c.loop-at.invariant c.in-Some.ensures.steps (search rules)

pub loop-at-preserved : goal.loop-at-preserved
loop-at-preserved g c =
    let t = c.args.self.now in
    let r = c.loop-at.run in
    let new = c.take.new.self in
    let whole = outcome (g.D.Domain.model c.args.domain.now) (view t).program c.args.inputs.now c.args.choices.now in
    let went =
    goes_on (g.D.Domain.model r.domain.now) t.result r.inputs.now (shown c.loop-at.at-iterator) (env r.values) r.choices.now whole (in_its_record (c.in-Some.at, c.in-Some.instruction)) (shown c.next.new.self) c.loop-at.invariant c.in-Some.ensures.steps
    (env new.values) new.choices.now tt (search rules) in
    record {
      within = went.within;
      same = (λ j. run (g.D.Domain.model (c.take.ensures.domain j)) (c.take.ensures.inputs j) t.result (shown c.next.new.self) (env new.values) new.choices.now) ∙ went.same;
    }
