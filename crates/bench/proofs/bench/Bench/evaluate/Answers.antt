use Rattle.std.proofs.Common.{◌≡◌, rules}
use Rattle.calls.specs.Bench.{Call, Answer}
use Rattle.calls.specs.Histories.{answer}
use Rattle.calls.proofs.OneCall.{answers_for_loaded}
use Rattle.bench.specs.States.{state}
use Rattle.bench.proofs.Answers.{evaluating_keeps}
use Rattle.bench.proofs.bench.Bench.evaluate.Goals as goal

pub returns-in_err-table-clause-promise : goal.returns-in_err-table-clause-promise
returns-in_err-table-clause-promise g c =
    let b = c.args.self.now in
    evaluating_keeps (g.D.Domain.model b.domain) (g.met.D.Domain.lawful b.domain) (state b) c.args.inputs.now c.args.choices.now

pub returns-in_err-outcome-clause-promise : goal.returns-in_err-outcome-clause-promise
returns-in_err-outcome-clause-promise g c =
    let b = c.args.self.now in
    evaluating_keeps (g.D.Domain.model b.domain) (g.met.D.Domain.lawful b.domain) (state b) c.args.inputs.now c.args.choices.now

pub returns-clause-promise : goal.returns-clause-promise
returns-clause-promise g c =
    let b = c.args.self.now in
    evaluating_keeps (g.D.Domain.model b.domain) (g.met.D.Domain.lawful b.domain) (state b) c.args.inputs.now c.args.choices.now

pub returns-clause-loaded : goal.returns-clause-loaded
returns-clause-loaded g c =
    let b = c.args.self.now in
    let m = g.D.Domain.model b.domain in
    let value : answer m (state b) (Call.evaluate c.args.inputs.now c.args.choices.now) ≡ Answer.evaluated c.in_ok-outcome.outcome = search rules in
    answers_for_loaded m (g.met.D.Domain.lawful b.domain) (state b) c.args.inputs.now c.args.choices.now c.in_ok-outcome.outcome value
