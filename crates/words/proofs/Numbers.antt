-- Codes and their signed readings as exact numbers of 32 bits.
use Rattle.std.proofs.Common.{◌≡◌, ℕ, ◌/◌, ◌^◌, ◌<◌, ◌≤◌, min, ℤ, pos, negsuc, ◌*ℤ◌, unsigned_abs, w32, FitsSigned, ap, arith}
use Rattle.std.specs.Int.Signed.{shr_z}
use Rattle.std.proofs.lemmas.Int.{fits_signed_mul}
use Rattle.words.specs.Powers.{halves, few_codes, shifted_out}

pub fits_product : (a b : ℤ) → unsigned_abs a ≤ 256 → unsigned_abs b ≤ 256 → FitsSigned w32 (a *ℤ b)
fits_product a b p q = fits_signed_mul w32 a b 256 256 p q (omega arith)

-- a shift by more than 8 gives what one by 8 gives: of a number below 256 the sign alone
pub div-min : (a s : ℕ) → a < 256 → a / 2 ^ min s 8 ≡ a / 2 ^ s
div-min a s h = grind (arith, shifted_out)

pub shr_z-min : (z : ℤ) (s : ℕ) → unsigned_abs z < 256 → shr_z z (2 ^ min s 8) ≡ shr_z z (2 ^ s)
shr_z-min (pos a) s h = ap pos (div-min a s h)
shr_z-min (negsuc a) s h = ap negsuc (div-min a s (omega arith))

pub ruleset powers = (halves, few_codes)
