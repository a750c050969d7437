use Rattle.semantics.proofs.passes_meet.Goals as goal
use Rattle.semantics.proofs.Behind.{pass_meets}
use Rattle.semantics.proofs.Room.{room_exact}

pub returns : goal.returns
returns g c = record { meets = pass_meets _ (g.met.D.Domain.lawful c.args.domain.now); room = room_exact _ }
