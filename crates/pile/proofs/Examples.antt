-- The worked examples, by computing.
use Rattle.std.proofs.Common.{refl}
use Rattle.words.specs.Words.{overflow}
use Rattle.layers.specs.Layers.{union, any}
use Rattle.pile.specs.Examples.{Examples}

pub examples : Examples
unfolding overflow union any
examples = record {
  add_wraps = refl;
  add_breaks = refl;
  sdiv_rounds = refl;
  sdiv_breaks = refl;
  sdiv_traps = refl;
  shl_empties = refl;
  shl_poisons = refl;
  udiv_by_zero = refl;
  udiv_by_poison = refl;
  sdiv_of_poison = refl;
  udiv_of_poison = refl;
}
