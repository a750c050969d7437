use Rattle.std.proofs.Common.{sym, ap, ◌∙◌}
use Rattle.copy_vec.specs.Items.{items}
use Rattle.semantics.specs.Rules.{numbered}
use Rattle.text.specs.Faults.{accepted}
use Rattle.text.specs.ProgramTexts.{ended}
use Rattle.reader.specs.NameTables.{names_in}
use Rattle.reader.specs.Readings.{section_of, reading_of}
use Rattle.reader.proofs.Readings.{bodies_named}
use Rattle.reader.proofs.program.Reading.finish.Goals as goal

pub returns-in-End : goal.returns-in-End
returns-in-End c =
    let r = c.args.self in
    (λ j. accepted (record { inputs = c.len.ensures.value j; body = numbered 1 (sym (bodies_named (names_in r.scope.instructions) (items r.body) r.all_named) j); result = r.result }))
    ∙ ap (λ x. ended (section_of x) (reading_of r) c.args.number) (sym c.in-End.is)
