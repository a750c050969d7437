use Rattle.calls.proofs.histories_keep.Goals as goal
use Rattle.calls.proofs.Promise.{kept, one_more}
use Rattle.calls.proofs.Entries.{enters_exactly}

pub returns : goal.returns
returns g c = record { kept = kept _ (g.met.D.Domain.lawful c.args.domain.now); enters = enters_exactly _ (g.met.D.Domain.lawful c.args.domain.now); goes = one_more (g.D.Domain.model c.args.domain.now) }
