use Rattle.std.proofs.Common.{refl}
use Rattle.layers.specs.Standing.{stands_for_all}
use Rattle.layers.proofs.poison.Poison.over.Goals as goal

pub returns : goal.returns
returns g c = record { value = refl; meaning = stands_for_all _ }
