use Rattle.std.proofs.Common.{sym, ◌∙◌, arith}
use Rattle.std.proofs.lemmas.Bool.{cond-true, cond-false}
use Rattle.semantics.specs.Programs.{tail}
use Rattle.semantics.proofs.Stepwise.{runs_on}
use Rattle.semantics.proofs.run.Run.take.Goals as goal

pub returns-then-is_freeze-clause-value : goal.returns-then-is_freeze-clause-value
returns-then-is_freeze-clause-value g c =
    let cs = c.args.self.now.choices.now in
    runs_on _ _ _ _ _ cs _ c.next_choice-choice.result.0 _ _ (omega (arith, c.requires, c.args.self.now.long)) c.next_choice-choice.ensures.choice c.in_ok-self.ensures
    (c.next_choice-choice.ensures.later ∙ sym (cond-true _ (tail cs) cs (sym c.if-is_freeze.ensures)))

pub returns-else-is_freeze-clause-value : goal.returns-else-is_freeze-clause-value
returns-else-is_freeze-clause-value g c =
    let cs = c.args.self.now.choices.now in
    runs_on _ _ _ _ _ cs _ c.next_choice-choice.result.0 _ _ (omega (arith, c.requires, c.args.self.now.long)) c.next_choice-choice.ensures.choice c.in_ok-self.ensures
    (sym (cond-false _ (tail cs) cs (sym c.if-is_freeze.ensures)))
