-- Decimal numbers. Assumes nothing.
use Rattle.std.specs.Prelude.{ℕ, ◌+◌, ◌-◌, ◌*◌, min, Bool, cond, ◌&&◌, List, length, fold, Some, None, Option, nat_le, nat_lt}
use Rattle.std.specs.List.{list_all}
use Rattle.std.specs.Option.{option_map}

abbrev pub digit : ℕ → Bool
digit b = nat_le 48 b && nat_le b 57

-- what digits are worth
abbrev pub worth : List ℕ → ℕ
worth w = fold (λ v d. v * 10 + (d - 48)) 0 w

-- one or more digits, of any length, by what they are worth
abbrev pub digits : List ℕ → Option ℕ
digits w = cond (nat_lt 0 (length w) && list_all digit w) (Some (worth w)) None

-- above 65,535 it is told only that it is more
abbrev pub decimal_of : List ℕ → Option ℕ
decimal_of w = option_map (λ n. min n 65536) (digits w)
