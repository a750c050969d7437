use Rattle.text.proofs.what_is_refused.Goals as goal
use Rattle.text.proofs.Tellings.{rules_told, programs_told}
use Rattle.text.proofs.FirstLine.{rules_first_line, programs_first_line}
use Rattle.text.proofs.Smallest.{smallest_told}

pub returns : goal.returns
returns g c =
    let m = g.D.Domain.model c.args.domain.now in
    record { rules = rules_told m; programs = programs_told m; rule_lines = rules_first_line m; program_lines = programs_first_line m; smallest = smallest_told m }
