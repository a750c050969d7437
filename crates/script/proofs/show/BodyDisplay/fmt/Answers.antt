use Rattle.std.proofs.Common.{[], ◌++◌, append_assoc, sym, ap, ◌∙◌, rules}
use Rattle.std.proofs.Output.{has_written_append}
use Rattle.program.specs.Windows.{shown}
use Rattle.script.specs.Shows.{placed_text, body_text}
use Rattle.script.proofs.show.BodyDisplay.fmt.Goals as goal

pub loop-at-init : goal.loop-at-init
loop-at-init g c = λ plain. ([], search rules, ap body_text (ap shown c.into_iter-at-iterator.ensures.into_iter_gives ∙ c.window-at-items.ensures))

pub loop-at-preserved : goal.loop-at-preserved
loop-at-preserved g c = λ plain.
    let so_far = c.loop-at.invariant plain in
    (so_far.0 ++ placed_text (record { at = c.in-Some.at; what = c.in-Some.instruction }), has_written_append _ _ _ _ _ _ so_far.1 (search rules), append_assoc so_far.0 _ _ ∙ ap (λ xs. so_far.0 ++ body_text xs) (sym c.in-Some.ensures.steps) ∙ so_far.2)
