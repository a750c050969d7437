use Rattle.semantics.proofs.rewriting_refines.Goals as goal
use Rattle.semantics.proofs.Rewritten.{stays_formed}
use Rattle.semantics.proofs.Contextual.{contextual}
use Rattle.semantics.proofs.Refuted.{convicted}

pub returns : goal.returns
returns g c = record { contextual = contextual _ (g.met.D.Domain.lawful c.args.domain.now); stays = stays_formed _; convicted = convicted _ }
