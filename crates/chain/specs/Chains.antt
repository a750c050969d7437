-- Chains through records: each record names the next by its number, from 1, and zero ends a chain. Assumes nothing.
use Rattle.std.specs.Prelude.{◌≡◌, ℕ, ◌-◌, ◌≤◌, ◌⊎◌, List, [], ◌∷◌, ◌++◌, map, length, ◌≢◌, slice_index, slice_set}

-- k is the number of a record
pub record Within {R : Type 0} (records : List R) (k : ℕ) : Type 0 where
  pub low : 1 ≤ k
  pub high : k ≤ length records

-- the link of record k
abbrev pub link : List ℕ → ℕ → ℕ
link links k = slice_index links (k - 1)

-- the links with record k's changed
abbrev pub relink : List ℕ → ℕ → ℕ → List ℕ
relink links k to = slice_set links (k - 1) to

-- record k is one of these
abbrev pub Among : ℕ → List ℕ → Type 0
Among k [] = ⊥
Among k (x ∷ xs) = (k ≡ x) ⊎ Among k xs

-- record k is none of these
abbrev pub Apart : ℕ → List ℕ → Type 0
Apart k [] = Unit {0}
Apart k (x ∷ xs) = (k ≢ x) × Apart k xs

-- no record of the first list is one of the second
abbrev pub Clear : List ℕ → List ℕ → Type 0
Clear [] ks = Unit {0}
Clear (x ∷ xs) ks = Apart x ks × Clear xs ks

-- following the links from `first` gives these records, in order, and none twice
abbrev pub Chained : List ℕ → ℕ → List ℕ → Type 0
Chained links first [] = first ≡ 0
Chained links first (k ∷ ks) = (first ≡ k) × (1 ≤ k) × (k ≤ length links) × Apart k ks × Chained links (link links k) ks

-- the links from `first` come to an end
abbrev pub Ends : List ℕ → ℕ → Type 0
Ends links first = (ks : List ℕ) × Chained links first ks

-- they do, and pass by record k
abbrev pub Passes : List ℕ → ℕ → ℕ → Type 0
Passes links first k = (ks : List ℕ) × Chained links first ks × Among k ks

-- they do, and not by record k
abbrev pub Misses : List ℕ → ℕ → ℕ → Type 0
Misses links first k = (ks : List ℕ) × Chained links first ks × Apart k ks

-- chains that have none of these records are as they were
abbrev pub OthersStay : List ℕ → List ℕ → List ℕ → Type 0
OthersStay before after changed = (first : ℕ) (ks : List ℕ) → Clear changed ks → Chained before first ks → Chained after first ks

-- the chain from `first` is now the chain from `first2`, edited, and chains that share no record with it or with `taken` are as they were
pub record Becomes (before : List ℕ) (first : ℕ) (after : List ℕ) (first2 : ℕ) (edit : List ℕ → List ℕ) (taken : List ℕ) : Type 0 where
  pub chain : (ks : List ℕ) → Chained before first ks → Chained after first2 (edit ks)
  pub others : (ks : List ℕ) → Chained before first ks → OthersStay before after (taken ++ ks)

-- records with these links in place of their own
abbrev pub with_links : {R : Type 0} → (R → ℕ → R) → List R → List ℕ → List R
with_links relinked [] ns = []
with_links relinked (r ∷ rs) [] = r ∷ rs
with_links relinked (r ∷ rs) (n ∷ ns) = relinked r n ∷ with_links relinked rs ns

-- the records differ in their links at most
abbrev pub OnlyLinks : {R : Type 0} → (R → ℕ) → (R → ℕ → R) → List R → List R → Type 0
OnlyLinks successor relinked before after = after ≡ with_links relinked before (map successor after)
