use Rattle.std.proofs.Common.{◌≡◌, ℕ, true, List, [], refl}
use Rattle.chain.specs.Walks.{walk, chained}
use Rattle.chain.proofs.Walks.{ends_from}
use Rattle.chain.proofs.walk.iter.Goals as goal

-- a chain of no records is sound as well: what `iter` promises alone tells where a walk begins
none_chained : (links : List ℕ) → chained links 0 (walk links 0) ≡ true
none_chained links = ends_from links 0 ([], refl)

pub invariant_of-result : goal.invariant_of-result
invariant_of-result g c = record { chain = search (ends_from, none_chained) }
