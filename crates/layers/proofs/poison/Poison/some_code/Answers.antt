use Rattle.std.proofs.Common.{◌≡◌, of_calls, rules, arith}
use Rattle.std.proofs.lemmas.Iterator.{YieldsList-from_range}
use Rattle.std.proofs.lemmas.Iterator.Search.{any_from_yields_List}
use Rattle.layers.specs.Layers.{any}
use Rattle.layers.proofs.poison.Poison.some_code.Goals as goal

pub returns-then-is_poison : goal.returns-then-is_poison
unfolding any
returns-then-is_poison g c f h =
    let size = (g.D.Domain.model c.args.self.now.below).size in
    let some : c.any.result ≡ any size f =
    any_from_yields_List f _ _ _ c.any.ensures.ran (YieldsList-from_range 0 size size (cc) (omega arith))
    (λ x b q k. (g.met.F.Fn.1.step_stays _ _ _ _ k, h x b (search of_calls))) in
    search rules
