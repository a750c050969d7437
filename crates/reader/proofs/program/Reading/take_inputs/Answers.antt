use Rattle.std.proofs.Common.{◌≡◌, ltb, length, Err, sym, ap, ◌∙◌, rules}
use Rattle.copy_vec.specs.Items.{items}
use Rattle.scan.specs.Pieces.{left}
use Rattle.text.specs.ProgramTexts.{in_body, twice}
use Rattle.reader.specs.declared.fault.ReadFault.TheVariants.{Text}
use Rattle.reader.specs.ReadFaults.{left_at}
use Rattle.reader.specs.NameTables.{names_in}
use Rattle.reader.specs.Inputs.{tabled}
use Rattle.reader.specs.Readings.{named_all}
use Rattle.reader.proofs.ReadFaults.{located_ok, located_err}
use Rattle.reader.proofs.Inputs.{inputs_ruled, inputs_refused, inputs_taken}
use Rattle.reader.proofs.program.Reading.take_inputs.Goals as goal

pub returns-in_err-on_line-clause-value : goal.returns-in_err-on_line-clause-value
returns-in_err-on_line-clause-value c =
    let a = c.in_err-on_line.field-0.0 in
    let (was, on) = located_err c.args.line c.read_inputs.result a (sym c.on_line.ensures ∙ c.in_err-on_line.was) in
    let is : c.from_residual.result ≡ Err (Text a) = search rules in
    λ ns e.
    ap (left_at _) is
    ∙ inputs_refused (ltb 8 (length ns)) (twice ns) ns a.fault _
    (ap (tabled (names_in c.read_inputs.new.names)) (sym was) ∙ inputs_ruled (left c.args.words) (names_in c.new-self.result) _ c.read_inputs.ensures c.new-self.ensures ns e)

pub returns-clause-value : goal.returns-clause-value
returns-clause-value c =
    let r = c.args.self.now in
    let was = located_ok c.args.line c.read_inputs.result _ (sym c.on_line.ensures ∙ c.in_ok-on_line.was) in
    λ ns e.
    inputs_taken (ltb 8 (length ns)) (twice ns) ns (names_in c.read_inputs.new.names) (λ xs. record { section = in_body; inputs = xs; body = named_all (names_in r.scope.instructions) (items r.body); result = r.result })
    (ap (tabled (names_in c.read_inputs.new.names)) (sym was) ∙ inputs_ruled (left c.args.words) (names_in c.new-self.result) _ c.read_inputs.ensures c.new-self.ensures ns e)
