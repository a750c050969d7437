use Rattle.std.proofs.Common.{◌≡◌, false, Ok, ap, ◌∙◌, rules}
use Rattle.reader.specs.Scopes.{known_names}
use Rattle.reader.specs.ReadFaults.{located, answered}
use Rattle.reader.specs.Meanings.{some_far, text_fault, instruction_of, found_on}
use Rattle.reader.proofs.Meanings.{fault_free, line_told}
use Rattle.reader.proofs.instruction.read_instruction.Given.{Over}
use Rattle.reader.proofs.instruction.read_instruction.Goals as goal
use Rattle.reader.proofs.instruction.read_instruction.Goals.{In_ok-marks}

passed : (g : Over) (c : goal.In_ok-marks g) → (some_far c.args.written.now ≡ false) × (c.args.too_many ≡ false)
passed g c =
    fault_free c.args.too_many (known_names c.args.scope.now) c.args.written.now c.args.line _ c.on_line.result
    (c.on_line.ensures ∙ ap (located c.args.line) c.well_written.ensures)
    c.in_ok-marks.was

pub instruction-requires : goal.instruction-requires
instruction-requires g c = (passed g c).0

pub returns-in_err-marks-clause-value : goal.returns-in_err-marks-clause-value
returns-in_err-marks-clause-value g c =
    let m = g.D.Domain.model c.args.domain.now in
    let ns = known_names c.args.scope.now in
    let w = c.args.written.now in
    let is : c.from_residual.result ≡ found_on c.args.line (text_fault c.args.too_many ns w) (λ marks. instruction_of m ns marks w) = search rules in
    λ s spells. ap answered is ∙ line_told m ns w s spells c.args.line c.args.too_many

pub returns-in_err-instruction-clause-value : goal.returns-in_err-instruction-clause-value
returns-in_err-instruction-clause-value g c =
    let m = g.D.Domain.model c.args.domain.now in
    let ns = known_names c.args.scope.now in
    let w = c.args.written.now in
    let is : c.from_residual-in_err-instruction.result ≡ found_on c.args.line (text_fault c.args.too_many ns w) (λ marks. instruction_of m ns marks w) = search rules in
    λ s spells. ap answered is ∙ line_told m ns w s spells c.args.line c.args.too_many

pub returns-clause-value : goal.returns-clause-value
returns-clause-value g c =
    let m = g.D.Domain.model c.args.domain.now in
    let ns = known_names c.args.scope.now in
    let w = c.args.written.now in
    let is : Ok c.in_ok-instruction.instruction ≡ found_on c.args.line (text_fault c.args.too_many ns w) (λ marks. instruction_of m ns marks w) = search rules in
    λ s spells. ap answered is ∙ line_told m ns w s spells c.args.line c.args.too_many

pub returns-clause-room : goal.returns-clause-room
returns-clause-room g c = (passed g (goal.at.returns-clause-room g c).In_ok-marks).1
