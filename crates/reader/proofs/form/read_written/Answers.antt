use Rattle.std.proofs.Common.{[], ◌∷◌, map, take, slice_index_or, pos, refl, ap, ◌∙◌, arith}
use Rattle.copy_vec.specs.Items.{items}
use Rattle.vocabulary.specs.Names.{operand_count}
use Rattle.scan.specs.Pieces.{left}
use Rattle.text.specs.Forms.{instruction_line}
use Rattle.reader.specs.declared.token.Token.TheVariants.{Number}
use Rattle.reader.specs.Tokens.{seen}
use Rattle.reader.proofs.Meanings.{few_operands}
use Rattle.reader.proofs.Operands.{spelt, placed, written_some}
use Rattle.reader.proofs.form.read_written.Goals as goal

pub returns : goal.returns
returns c =
    let operands = items c.in_ok-operands.operands in
    let op = c.args.operation in
    let blank = Number (pos 0) in
    let first = c.operand_at.ensures ∙ ap (λ xs. slice_index_or xs 0 blank) c.deref.ensures.0 in
    let second = c.operand_at-2.ensures ∙ ap (λ xs. slice_index_or xs 1 blank) c.deref-2.ensures.0 in
    let third = c.operand_at-3.ensures ∙ ap (λ xs. slice_index_or xs 2 blank) c.deref-3.ensures.0 in
    let all =
    (λ j. take (operand_count op) (first j ∷ second j ∷ third j ∷ []))
    ∙ placed blank operands (operand_count op) c.in_ok-operands.ensures.taken (omega (arith, c.in_ok-operands.ensures.taken, few_operands op)) in
    let (args, is, same) = written_some c.args.name.now op (left c.args.words) (left c.read_marks-marks.new.words) c.read_marks-marks.ensures.after (map seen operands) c.in_ok-operands.ensures.value in
    let line = spelt c.args.name.now op (left c.args.words) args in (
      instruction_line line,
      is,
      (
        line,
        refl,
        record {
          name = refl;
          operation = refl;
          marks = c.read_marks-marks.ensures.value;
          operands = ap (map seen) all ∙ same;
        },
      ),
    )
