use Rattle.std.proofs.Common.{◌≡◌, [], length, vec_items}
use Rattle.scan.specs.Pieces.{left}
use Rattle.script.specs.Commands.{numbers, with_inputs}
use Rattle.script.proofs.command.evaluating.read_numbers.Given as goal

-- what is left gives the same, whether as all of the numbers or as inputs
abbrev pub invariant-loop-word : goal.invariant-loop-word
invariant-loop-word l =
    (numbers (vec_items l.numbers) (left l.words) ≡ numbers [] (left l.initial.words))
    × (with_inputs (vec_items l.numbers) (left l.words) ≡ with_inputs [] (left l.initial.words))

abbrev pub decreases-loop-word : goal.decreases-loop-word
decreases-loop-word l = length (left l.words)
