use Rattle.calls.proofs.states_proper.Goals as goal
use Rattle.calls.proofs.Slots.{starts_proper}
use Rattle.calls.proofs.Calls.{stays_proper}
use Rattle.calls.proofs.Promise.{reached_proper}

pub returns : goal.returns
returns g c = record { starts = starts_proper _; stays = stays_proper _ (g.met.D.Domain.lawful c.args.domain.now); reached = reached_proper _ (g.met.D.Domain.lawful c.args.domain.now) }
