-- What is left of a walk along a chain. Assumes nothing.
use Rattle.std.specs.Prelude.{ℕ, List, map}
use Rattle.chain.specs.Records.{records_at}
use Rattle.chain.specs.Walks.{walk}
use Rattle.chain.specs.declared.Linked.{Ghosts}
use Rattle.chain.specs.declared.links.Links.{Links}

-- the records from where it is to the chain's end, each with its number
abbrev pub links_left : {R : Type 0} {l : Ghosts R} → Links R l → List (ℕ × R)
links_left {l = l} it = records_at it.records.now (walk (map l.successor it.records.now) it.at)
