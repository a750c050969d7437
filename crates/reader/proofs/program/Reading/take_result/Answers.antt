use Rattle.std.proofs.Common.{ℕ, Some, None, sym, ap, ◌∙◌, add-one}
use Rattle.copy_vec.specs.Items.{items}
use Rattle.text.specs.Faults.{next, wrong}
use Rattle.text.specs.ProgramTexts.{at_end}
use Rattle.reader.specs.ReadFaults.{read_fault}
use Rattle.reader.specs.NameTables.{names_in}
use Rattle.reader.specs.Readings.{named_all, reading_of}
use Rattle.reader.proofs.Readings.{result_of_some}
use Rattle.reader.proofs.program.Reading.take_result.Goals as goal

pub returns-in-Some-clause-value : goal.returns-in-Some-clause-value
returns-in-Some-clause-value c =
    let r = c.args.self.now in
    let ns = names_in r.scope.instructions in
    ap (λ (k : ℕ). next (record { section = at_end; inputs = names_in r.scope.variables; body = named_all ns (items r.body); result = k })) (add-one c.in-Some.k)
    ∙ result_of_some ns (items r.body) r.all_named (reading_of r) c.args.name.now (sym c.is_empty.ensures ∙ c.if-is_empty.false) (Some c.in-Some.k) c.in-Some.ensures.value

pub returns-in-None-clause-value : goal.returns-in-None-clause-value
returns-in-None-clause-value c =
    let r = c.args.self.now in
    ap (λ f. wrong (read_fault f).number) c.text-in-None.ensures
    ∙ result_of_some (names_in r.scope.instructions) (items r.body) r.all_named (reading_of r) c.args.name.now (sym c.is_empty.ensures ∙ c.if-is_empty.false) None c.in-None.ensures.value
