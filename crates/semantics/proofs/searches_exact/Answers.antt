use Rattle.semantics.proofs.searches_exact.Goals as goal
use Rattle.semantics.proofs.Fit.{fitting_exact}
use Rattle.semantics.proofs.Search.{checking_exact}

pub returns : goal.returns
returns g c = record { fitting = fitting_exact _; checking = checking_exact _ (g.met.D.Domain.lawful c.args.domain.now) }
