use Rattle.std.proofs.Common.{◌≡◌, rules}
use Rattle.calls.specs.Bench.{Call}
use Rattle.calls.specs.Histories.{next}
use Rattle.calls.proofs.OneCall.{promised}
use Rattle.bench.specs.States.{state}
use Rattle.bench.proofs.bench.Bench.load.Goals as goal

pub returns-in_err-program-clause-promise : goal.returns-in_err-program-clause-promise
returns-in_err-program-clause-promise g c =
    let b = c.args.self.now in
    let m = g.D.Domain.model b.domain in
    let after : state b ≡ next m (state b) (Call.load c.args.text.now) = search rules in
    promised m (g.met.D.Domain.lawful b.domain) (state b) (Call.load c.args.text.now) (state b) after

pub returns-clause-promise : goal.returns-clause-promise
returns-clause-promise g c =
    let b = c.args.self.now in
    promised (g.D.Domain.model b.domain) (g.met.D.Domain.lawful b.domain) (state b) (Call.load c.args.text.now) _ (search rules)
