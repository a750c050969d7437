use Rattle.std.proofs.Common.{◌≡◌, ◌≤◌, ◌∷◌, map, length, None, sym, ap, ◌∙◌, rules, arith}
use Rattle.std.specs.Option.{option_map}
use Rattle.std.proofs.lemmas.List.{length-map}
use Rattle.copy_vec.specs.Items.{items}
use Rattle.vocabulary.specs.Names.{operand_count}
use Rattle.scan.specs.Pieces.{left}
use Rattle.reader.specs.Tokens.{seen}
use Rattle.reader.proofs.Meanings.{few_operands}
use Rattle.reader.proofs.Operands.{operands_after, operands_full}
use Rattle.reader.proofs.form.read_operands.Goals as goal

pub returns-in_err-ok-clause-value : goal.returns-in_err-ok-clause-value
returns-in_err-ok-clause-value c =
    let n = operand_count c.args.op in
    let held = items c.loop-word.operands in
    let none : option_map (λ t. map seen (items t)) c.from_residual-in_err-ok.result ≡ None = search rules in
    let many : length held ≡ 3 = search rules in
    let full : n ≤ length (map seen held) = omega (arith, many, length-map held seen, few_operands c.args.op) in
    let more : left c.loop-word.word-iterator ≡ c.in-Some.word.now ∷ left c.next.new.self = search rules in
    none
    ∙ sym (operands_full n (map seen held) c.in-Some.word.now (left c.next.new.self) full)
    ∙ ap (operands_after n (map seen held)) (sym more)
    ∙ c.loop-word.invariant
