use Rattle.std.proofs.Common.{refl}
use Rattle.vocabulary.specs.Names.{operation_named}
use Rattle.words.specs.Words.{overflow}
use Rattle.layers.specs.Layers.{union, any}
use Rattle.pile.proofs.Examples.{examples}
use Rattle.calls.proofs.examples_hold.Goals as goal

pub returns : goal.returns
unfolding operation_named union any overflow
returns c = record {
  values = examples;
  select_poison = refl;
  freeze_poison = refl;
  marked_refuted = refl;
  unmarked_enters = refl;
  rewrites = refl;
  evaluates = refl;
  next_slot = refl;
}
