use Rattle.text.proofs.what_is_written.Goals as goal
use Rattle.text.proofs.ProgramBack.{reads_back}
use Rattle.text.proofs.RuleBack.{reads_rule_back}

pub returns : goal.returns
returns g c = record {
  programs = reads_back (g.D.Domain.model c.args.domain.now) (g.met.D.Domain.lawful c.args.domain.now);
  rules = reads_rule_back (g.D.Domain.model c.args.domain.now) (g.met.D.Domain.lawful c.args.domain.now);
}
