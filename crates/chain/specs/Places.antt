-- Lists of records with one put in or taken out. Assumes nothing.
use Rattle.std.specs.Prelude.{ℕ, cond, List, [], ◌∷◌, ◌==◌}
use Rattle.chain.specs.Chains.{Apart, Chained}

-- `at` is put before `place`, or last where that is none of the list
abbrev pub put_before : ℕ → ℕ → List ℕ → List ℕ
put_before place at [] = at ∷ []
put_before place at (k ∷ ks) = cond (k == place) (at ∷ k ∷ ks) (k ∷ put_before place at ks)

-- `at` is put behind `place`, if that is one of the list
abbrev pub put_behind : ℕ → ℕ → List ℕ → List ℕ
put_behind place at [] = []
put_behind place at (k ∷ ks) = cond (k == place) (k ∷ at ∷ ks) (k ∷ put_behind place at ks)

-- all but `at`
abbrev pub without : ℕ → List ℕ → List ℕ
without at [] = []
without at (k ∷ ks) = cond (k == at) (without at ks) (k ∷ without at ks)

-- what stands before `wanted`, where `last` stands before the list; the last of all where that is none of the list
abbrev pub predecessor : ℕ → List ℕ → ℕ → ℕ
predecessor last [] wanted = last
predecessor last (k ∷ ks) wanted = cond (k == wanted) last (predecessor k ks wanted)

-- a chain without `at` that had `place` has `at` behind it, and one that had neither is as it was
abbrev pub Inserts : List ℕ → List ℕ → ℕ → ℕ → Type 0
Inserts before after place at = (first : ℕ) (ks : List ℕ) → Apart at ks → Chained before first ks → Chained after first (put_behind place at ks)
