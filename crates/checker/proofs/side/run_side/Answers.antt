use Rattle.copy_vec.specs.Items.{items}
use Rattle.std.proofs.Common.{◌+◌, length, drop, ◌∙◌}
use Rattle.domain.proofs.Outcomes.{is_a_trap}
use Rattle.semantics.specs.Programs.{run}
use Rattle.semantics.specs.Rules.{numbered}
use Rattle.semantics.specs.Values.{env}
use Rattle.checker.proofs.Sides.{run_traps, run_more}
use Rattle.checker.proofs.side.run_side.Goals as goal

pub loop-before-init : goal.loop-before-init
loop-before-init g c =
    let e = c.new-run.ensures in
    λ j. run (g.D.Domain.model (e.domain j)) (e.inputs j) (length (items c.args.side.now)) (numbered 1 (c.deref-instruction-items.ensures.0 j)) (e.values j) (e.choices j)

pub returns-in_err-take : goal.returns-in_err-take
returns-in_err-take g c =
    is_a_trap c.from_residual.result c.from_residual.ensures.0 ∙ run_traps _ _ _ _ _ _ _ c.loop-before.before _ c.loop-before-test.true c.loop-before.invariant c.in_err-take.ensures.value

pub loop-before-preserved : goal.loop-before-preserved
loop-before-preserved g c =
    let i = c.loop-before.before in
    let is = c.deref-instruction-items.result.now in
    let new = c.take.new.self in
    (λ j. run (g.D.Domain.model (c.take.ensures.domain j)) (c.take.ensures.inputs j) (length (items c.args.side.now)) (numbered (i + 1 + 1) (drop (i + 1) is)) (env new.values) new.choices.now)
    ∙ run_more _ _ _ _ is _ _ i _ c.loop-before-test.true c.loop-before.invariant _ _ _ c.in_ok-take.ensures.value
