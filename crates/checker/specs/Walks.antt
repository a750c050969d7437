-- The lists that are still to come, from the present one on, in the order of `tuples`. Assumes nothing.
use Rattle.std.specs.Prelude.{◌≡◌, ℕ, ◌-◌, Bool, cond, List, [], ◌∷◌, ◌++◌, map, length, take, replicate, Some, None, Option, nat_lt}
use Rattle.domain.specs.Model.{Model}
use Rattle.semantics.specs.Cases.{codes, settled_codes, keep, each_of, tuples}

-- the numbers of a set that are above c
abbrev pub above : ℕ → List ℕ → List ℕ
above c d = keep (nat_lt c) d

-- the lists from the present one on, with one entry from each set; what the present one has beyond the sets counts for nothing
abbrev pub left : List (List ℕ) → List ℕ → List (List ℕ)
left [] cs = [] ∷ []
left (d ∷ ds) [] = []
left (d ∷ ds) (c ∷ cs) = map (λ t. c ∷ t) (left ds cs) ++ each_of (λ a. map (λ t. a ∷ t) (tuples ds)) (above c d)

-- the present one
abbrev pub present : List (List ℕ) → List ℕ → List ℕ
present ds cs = take (length ds) cs

-- a free entry has any code, a choice a settled one
abbrev pub set_of : Model → Bool → List ℕ
set_of m free = cond free (codes m) (settled_codes m)

-- the sets of n free entries and then f choices
abbrev pub sets : Model → ℕ → ℕ → List (List ℕ)
sets m n f = replicate n (codes m) ++ replicate f (settled_codes m)

-- the first list, in 12 digits: a free entry has code 0, a choice the least settled code
abbrev pub first_digits : ℕ → ℕ → List ℕ
first_digits n least = replicate n 0 ++ replicate (12 - n) least

-- the number of a set that comes after c
abbrev pub Follows : List ℕ → ℕ → Option ℕ → Type 0
Follows d c None = above c d ≡ []
Follows d c (Some x) = above c d ≡ x ∷ above x d

-- the number of codes and the first settled one
pub record Known (m : Model) (size least : ℕ) : Type 0 where
  pub all_codes : size ≡ m.size
  pub least_settled : settled_codes m ≡ least ∷ above least (settled_codes m)
