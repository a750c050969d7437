-- Records told by their numbers. Assumes nothing.
use Rattle.std.specs.Prelude.{ℕ, ◌-◌, List, slice_get}
use Rattle.std.specs.List.{filter_map}
use Rattle.std.specs.Option.{option_map}

-- the records with these numbers, each with its own
abbrev pub records_at : {R : Type 0} → List R → List ℕ → List (ℕ × R)
records_at records ks = filter_map (λ k. option_map (λ r. (k, r)) (slice_get records (k - 1))) ks
