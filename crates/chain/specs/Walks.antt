-- The records that links lead to, and a test that two chains share none: a fact that a struct can hold. Assumes nothing.
use Rattle.std.specs.Prelude.{ℕ, zero, suc, Bool, true, cond, not, ◌&&◌, List, [], ◌∷◌, length, ◌==◌, nat_le}
use Rattle.chain.specs.Chains.{link, Chained, Clear}

-- the first n records, or all up to the end
unfoldable pub follow : ℕ → List ℕ → ℕ → List ℕ
follow zero links at = []
follow (suc n) links at = cond (at == 0) [] (at ∷ follow n links (link links at))

-- all records of the chain from `first`
abbrev pub walk : List ℕ → ℕ → List ℕ
walk links first = follow (length links) links first

-- `Apart`, `Clear` and `Chained` as tests
unfoldable pub apart : ℕ → List ℕ → Bool
apart k [] = true
apart k (x ∷ xs) = not (k == x) && apart k xs

unfoldable pub clear : List ℕ → List ℕ → Bool
clear [] ks = true
clear (x ∷ xs) ks = apart x ks && clear xs ks

unfoldable pub chained : List ℕ → ℕ → List ℕ → Bool
chained links first [] = first == 0
chained links first (k ∷ ks) = first == k && (nat_le 1 k && (nat_le k (length links) && (apart k ks && chained links (link links k) ks)))

-- from both records the links come to an end, and the two chains share no record
unfoldable pub disjoint : List ℕ → ℕ → ℕ → Bool
disjoint links first free = chained links first (walk links first) && (chained links free (walk links free) && clear (walk links first) (walk links free))

-- the same, with the chains' lists
pub record Disjoint (links : List ℕ) (first free : ℕ) (ks js : List ℕ) : Type 0 where
  pub used : Chained links first ks
  pub spare : Chained links free js
  pub clear : Clear ks js
