-- Worked examples at width 4. Assumes nothing.
use Rattle.std.specs.Prelude.{◌≡◌, Ok}
use Rattle.vocabulary.specs.declared.operation.Operation.TheVariants.{Add, Shl, Udiv, Sdiv}
use Rattle.domain.specs.Model.{Model, trap}
use Rattle.words.specs.Words.{words}
use Rattle.layers.specs.Layers.{poisoned}

-- the words of width 4, and the poison layer of all four marks over them, where 16 is poison
abbrev pub word : Model
word = words 4

abbrev pub house : Model
house = poisoned word 15

-- marks: nsw is 2, exact 4, range 8
pub record Examples : Type 0 where
  pub add_wraps : word.compute Add 0 7 1 ≡ Ok 8
  pub add_breaks : word.broken Add 7 1 ≡ 2
  pub sdiv_rounds : word.compute Sdiv 0 9 2 ≡ Ok 13
  pub sdiv_breaks : word.broken Sdiv 9 2 ≡ 4
  pub sdiv_traps : word.compute Sdiv 0 8 15 ≡ trap
  pub shl_empties : word.compute Shl 8 3 4 ≡ Ok 0
  pub shl_poisons : house.compute Shl 8 3 4 ≡ Ok 16
  pub udiv_by_zero : house.compute Udiv 0 16 0 ≡ trap
  pub udiv_by_poison : house.compute Udiv 0 3 16 ≡ trap
  pub sdiv_of_poison : house.compute Sdiv 0 16 15 ≡ trap
  pub udiv_of_poison : house.compute Udiv 0 16 3 ≡ Ok 16
