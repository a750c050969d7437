-- Powers of two at the widths of words.
use Rattle.std.specs.Prelude.{◌≡◌, ℕ, zero, suc, ◌+◌, ◌-◌, ◌/◌, ◌^◌, ◌<◌, ◌≤◌, ℤ, pos, negsuc, ◌≤ℤ◌, ◌<ℤ◌}
use Rattle.std.proofs.Common.{sym, ap, ◌∙◌, pow-suc, not-suc-le-zero, arith, pow_mono}
use Rattle.std.proofs.Math.Nat.{div-eq_of_lt}
use Rattle.std.specs.Int.Signed.{shr_z}
use Rattle.std.proofs.lemmas.Int.{ints}

pub halves : (w : ℕ) → 1 ≤ w → 2 ^ (w - 1) + 2 ^ (w - 1) ≡ 2 ^ w
halves zero h = absurd (not-suc-le-zero h)
halves (suc n) h = let e : suc n - 1 ≡ n = omega arith in ap (λ k. 2 ^ k + 2 ^ k) e ∙ omega (arith, pow-suc 2 n)

pub few_codes : (w : ℕ) → w ≤ 8 → 2 ^ w ≤ 256
few_codes w h = pow_mono h

pub some_codes : (w : ℕ) → 1 ≤ w → 2 ≤ 2 ^ w
some_codes w h = pow_mono {i = 1} h

-- a shift by 8 and more leaves nothing of a number below 256
pub many_codes : (s : ℕ) → 8 ≤ s → 256 ≤ 2 ^ s
many_codes s h = pow_mono {i = 8} h

pub shifted_out : (a s : ℕ) → a < 256 → 8 ≤ s → a / 2 ^ s ≡ 0
shifted_out a s h k = div-eq_of_lt (let n = many_codes s k in omega arith)

-- and so is a signed number, to 0 or to -1
pub shifted_zero : (z : ℤ) (s : ℕ) → pos 0 ≤ℤ z → z ≤ℤ pos 255 → 8 ≤ s → pos 0 ≡ shr_z z (2 ^ s)
shifted_zero (pos a) s low high k = ap pos (sym (shifted_out a s (omega (arith, ints)) k))
shifted_zero (negsuc a) s low high k = absurd low.le

pub shifted_minus : (z : ℤ) (s : ℕ) → z <ℤ pos 0 → negsuc 255 ≤ℤ z → 8 ≤ s → negsuc 0 ≡ shr_z z (2 ^ s)
shifted_minus (pos a) s neg low k = absurd (omega (arith, ints))
shifted_minus (negsuc a) s neg low k = ap negsuc (sym (shifted_out a s (omega (arith, ints)) k))
