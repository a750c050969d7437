use Rattle.std.proofs.Common.{[], ◌++◌, append_assoc, sym, codes, decimal, ap, ◌∙◌, rules}
use Rattle.std.proofs.Output.{has_written_append}
use Rattle.semantics.specs.Programs.{records}
use Rattle.program.specs.Windows.{shown}
use Rattle.script.specs.Answers.{numbers_text}
use Rattle.script.proofs.show.FreeDisplay.fmt.Goals as goal

pub loop-at-init : goal.loop-at-init
loop-at-init g c = λ plain. ([], search rules, ap (λ w. numbers_text (records (shown w))) c.into_iter-at-iterator.ensures.into_iter_gives ∙ ap numbers_text c.free_window-at-items.ensures)

pub loop-at-preserved : goal.loop-at-preserved
loop-at-preserved g c = λ plain.
    let so_far = c.loop-at.invariant plain in
    (so_far.0 ++ (codes " " ++ decimal c.in-Some.at), has_written_append _ _ _ _ _ _ so_far.1 (search rules), append_assoc so_far.0 _ _ ∙ ap (λ xs. so_far.0 ++ numbers_text (records xs)) (sym c.in-Some.ensures.steps) ∙ so_far.2)
