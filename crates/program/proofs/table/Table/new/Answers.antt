use Rattle.std.proofs.Common.{[], refl, arith}
use Rattle.std.specs.List.{range_with_len}
use Rattle.std.proofs.lemmas.List.FromFn.{length-range_with_len}
use Rattle.chain.specs.Walks.{Disjoint}
use Rattle.program.specs.View.{links}
use Rattle.program.proofs.Tables.{sound}
use Rattle.program.proofs.Loading.{shows_loaded}
use Rattle.program.proofs.table.Table.new.Goals as goal
use Rattle.program.proofs.table.Table.new.Goals.{After-rise-free}

free : (c : After-rise-free) → Disjoint (links c.rise-free.new.records) 0 c.rise-free.result [] (range_with_len 1 64)
free c = record { used = refl; spare = c.rise-free.ensures.chain; clear = tt }

pub invariant_of-result : goal.invariant_of-result
invariant_of-result c =
    let k = sound c.rise-free.new.records 0 c.rise-free.result [] (range_with_len 1 64) (omega arith) (free (goal.at.invariant_of-result c).After-rise-free) (omega (arith, length-range_with_len 1 64)) in
    record { long = k.long; chains = k.chains; all = k.all }

pub returns : goal.returns
returns c = shows_loaded c.rise-free.new.records [] 0 c.rise-free.result 0 0 refl (free (goal.at.returns c).After-rise-free)
