use Rattle.std.proofs.Common.{◌≡◌, refl, rules, of_calls, arith}
use Rattle.std.specs.Prelude.{bit_or, map}
use Rattle.std.specs.List.{fold, range_with_len}
use Rattle.std.proofs.iter.Yields.{nat_range_steps}
use Rattle.std.proofs.lemmas.Iterator.{YieldsList-from_range, YieldsList-from_map_by, maps}
use Rattle.std.proofs.lemmas.Fn.{fold_over}
use Rattle.std.proofs.lemmas.Grind.{common_steps}
use Rattle.vocabulary.specs.declared.marks.Marks.{Marks}
use Rattle.layers.specs.Layers.{union}
use Rattle.layers.proofs.poison.Poison.union_over.Goals as goal

pub returns-then-is_poison : goal.returns-then-is_poison
unfolding union
returns-then-is_poison g c f h =
    let size = (g.D.Domain.model c.args.self.now.below).size in
    let bits = λ (marks : Marks). marks.bits in
    let sets =
    YieldsList-from_map_by _ bits f (YieldsList-from_range {s = c.map.result.iter} 0 size size (cc) (omega arith)) c.map.ensures.closure
    (λ x marks q k. (g.met.F.Fn.1.step_stays _ _ _ _ k, h x marks (search of_calls))) in
    let united : c.fold.result.bits ≡ union size f =
    fold_over (maps nat_range_steps _) bits _ (λ xs marks. marks.bits ≡ fold bit_or 0 xs) _
    (λ xs marks more all q u k. (grind (arith, common_steps), search rules)) _ (map f (range_with_len 0 size)) _ _ sets.runs (refl {a = 0}) c.fold.ensures.ran in
    search rules
