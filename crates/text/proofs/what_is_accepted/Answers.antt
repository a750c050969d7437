use Rattle.text.proofs.what_is_accepted.Goals as goal
use Rattle.text.proofs.RuleMade.{rule_made}
use Rattle.text.proofs.ProgramMade.{program_made}

pub returns : goal.returns
returns g c = record { rules = rule_made (g.D.Domain.model c.args.domain.now); programs = program_made (g.D.Domain.model c.args.domain.now) }
