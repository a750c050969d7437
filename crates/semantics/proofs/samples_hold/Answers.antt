use Rattle.std.proofs.Common.{refl}
use Rattle.words.specs.Words.{overflow}
use Rattle.layers.specs.Layers.{union, any}
use Rattle.semantics.proofs.samples_hold.Goals as goal

pub returns : goal.returns
unfolding union any overflow
returns c = record {
  own_choices = refl;
  no_copy = refl;
  no_split = refl;
  may_join = refl;
  counted = refl;
  swap_sound = refl;
  one_freeze = refl;
  swap_gives = refl;
  always_zero = refl;
  on_removed = refl;
  one_name = refl;
  is_result = refl;
  is_read = refl;
  no_room = refl;
  last_freed = refl;
}
