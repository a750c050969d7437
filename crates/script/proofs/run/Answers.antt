use Rattle.std.proofs.Common.{◌≡◌, ◌<◌, length, string_bytes, ◌∙◌, arith}
use Rattle.std.proofs.lemmas.Bool.Decides.{nat_tests}
use Rattle.std.specs.Option.{option_map}
use Rattle.script.specs.Lines.{line_seen}
use Rattle.script.specs.Transcripts.{view, present, answer_seen}
use Rattle.script.proofs.Itemizing.{CutOff, one_item, no_item}
use Rattle.script.proofs.run.Goals as goal

pub loop-rest-smaller : goal.loop-rest-smaller
loop-rest-smaller c =
    let more : 0 < length c.loop-rest.rest.now = grind (arith, nat_tests) in
    omega (arith, c.split_line.ensures.shorter more, c.text_in-text.ensures.bound)

pub loop-rest-preserved : goal.loop-rest-preserved
loop-rest-preserved c =
    let more : 0 < length c.loop-rest.rest.now = grind (arith, nat_tests) in
    let order = line_seen c.in_ok-line.line in
    let text = c.text_in-text.result in
    let cut : CutOff c.loop-rest.rest.now c.split_line.result.0.now c.split_line.result.1.now text.bytes.now text.rest.now order text.lines = record {
      more = more;
      first = c.split_line.ensures.line;
      behind = c.split_line.ensures.rest;
      says = c.in_ok-line.ensures;
      text = c.text_in-text.ensures.bytes;
      lines = c.text_in-text.ensures.rest;
      count = c.text_in-text.ensures.lines;
    } in
    let interpreter = c.step-answer.new.self in (
      omega (arith, c.split_line.ensures.shorter more, c.text_in-text.ensures.bound),
      one_item (view c.loop-rest.interpreter) (view interpreter) c.loop-rest.number c.loop-rest.rest.now c.split_line.result.0.now c.split_line.result.1.now text.bytes.now text.rest.now order text.lines
          (option_map (answer_seen (present (view interpreter))) c.step-answer.result) (string_bytes c.loop-rest.out) (string_bytes c.print.new.out)
          cut c.step-answer.ensures.value c.step-answer.ensures.after c.in_ok-print.ensures
          ∙ c.loop-rest.invariant.1,
    )

pub returns : goal.returns
returns c =
    let ended : length c.loop-rest.rest.now ≡ 0 = grind (arith, nat_tests) in
    no_item (view c.loop-rest.interpreter) c.loop-rest.number c.loop-rest.rest.now (string_bytes c.loop-rest.out) ended ∙ c.loop-rest.invariant.1
