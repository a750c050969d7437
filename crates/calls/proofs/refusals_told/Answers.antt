use Rattle.calls.proofs.refusals_told.Goals as goal
use Rattle.calls.proofs.Refusals.{refusals}

pub returns : goal.returns
returns g c = refusals (g.D.Domain.model c.args.domain.now)
