use Rattle.std.proofs.Common.{◌≡◌, map}
use Rattle.std.specs.Option.{option_map}
use Rattle.copy_vec.specs.Items.{items}
use Rattle.vocabulary.specs.Names.{operand_count}
use Rattle.scan.specs.Pieces.{left}
use Rattle.text.specs.Forms.{arguments}
use Rattle.reader.specs.Tokens.{seen, told}
use Rattle.reader.proofs.Operands.{operands_after}
use Rattle.reader.proofs.form.read_operands.Given as goal

-- the operands so far, and the words that are left, give the answer
abbrev pub invariant-loop-word : goal.invariant-loop-word
invariant-loop-word l = operands_after (operand_count l.op) (map seen (items l.operands)) (left l.word-iterator) ≡ option_map (map told) (arguments l.op (left l.fn.words))
