use Rattle.std.proofs.Common.{◌≡◌, ◌<◌, length, ◌∙◌, arith, rules}
use Rattle.std.proofs.lemmas.Bool.Decides.{nat_tests}
use Rattle.script.proofs.Passing.{unclosed, closed, goes_on}
use Rattle.script.proofs.texts.split_text.Goals as goal

pub returns-then-eq : goal.returns-then-eq
returns-then-eq c =
    let rest = c.loop-line.rest.now in
    let more : 0 < length rest = grind (arith, nat_tests) in
    let over = closed c.args.script.now rest c.loop-line.lines c.loop-line.invariant c.split_line.result.0.now c.split_line.result.1.now c.split_line.ensures.line c.split_line.ensures.rest more (search rules) in
    record { bytes = c.split_at.ensures.front ∙ over.bytes; rest = over.rest; lines = over.lines; bound = over.bound }

pub loop-line-preserved : goal.loop-line-preserved
loop-line-preserved c =
    let rest = c.loop-line.rest.now in
    let more : 0 < length rest = grind (arith, nat_tests) in
    goes_on c.args.script.now rest c.loop-line.lines c.loop-line.invariant c.split_line.result.0.now c.split_line.result.1.now c.split_line.ensures.line c.split_line.ensures.rest more (search rules)

pub returns : goal.returns
returns c =
    let rest = c.loop-line.rest.now in
    let none : length rest ≡ 0 = grind (arith, nat_tests) in
    let over = unclosed c.args.script.now rest c.loop-line.lines c.loop-line.invariant none in
    record { bytes = over.bytes; rest = over.rest; lines = over.lines; bound = over.bound }
