-- What the arithmetic of words means, over a width of at least 1. Assumes nothing.
use Rattle.std.specs.Prelude.{◌≡◌, ℕ, ◌^◌, ◌<◌, true, ℤ, pos, ◌+ℤ◌, ◌*ℤ◌, ◌≤ℤ◌, ◌<ℤ◌, ◌≢◌, int_div, int_rem, unsigned_abs}
use Rattle.std.specs.Int.Signed.{shr_z}
use Rattle.words.specs.Words.{codes_of, signed, residue, in_signed}

pub record Exact (w : ℕ) : Type 0 where
  -- the remainder by 2^w is a code
  pub residue_code : (z : ℤ) → residue w z < codes_of w
  -- and differs from the number by a multiple of 2^w
  pub residue_rest : (z : ℤ) → (k : ℤ) × (z ≡ pos (residue w z) +ℤ k *ℤ pos (codes_of w))
  -- the signed reading of a code lies in the signed range
  pub signed_range : (c : ℕ) → c < codes_of w → in_signed w (signed w c) ≡ true
  -- and has the code as its remainder
  pub signed_code : (c : ℕ) → c < codes_of w → residue w (signed w c) ≡ c
  -- signed division: quotient times divisor, and the rest, give the dividend
  pub division : (z d : ℤ) → (d ≢ pos 0) → z ≡ int_div z d *ℤ d +ℤ int_rem z d
  -- the rest is smaller than the divisor, without regard to signs
  pub rest_small : (z d : ℤ) → (d ≢ pos 0) → unsigned_abs (int_rem z d) < unsigned_abs d
  -- and has the dividend's sign or is 0, so that the quotient is rounded toward zero
  pub rest_sign : (z d : ℤ) → (pos 0 ≤ℤ z → pos 0 ≤ℤ int_rem z d) × (z ≤ℤ pos 0 → int_rem z d ≤ℤ pos 0)
  -- an arithmetic shift divides by a power of two and rounds down
  pub shift_down : (z : ℤ) (s : ℕ) → ((shr_z z (2 ^ s) *ℤ pos (2 ^ s)) ≤ℤ z) × (z <ℤ ((shr_z z (2 ^ s) +ℤ pos 1) *ℤ pos (2 ^ s)))
