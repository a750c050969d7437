-- The arithmetic of words is that of exact division.
use Rattle.std.specs.Prelude.{◌≡◌, ℕ, ◌/◌, ◌^◌, ◌<◌, ◌≤◌, true, ℤ, pos, negsuc, ◌+ℤ◌, ◌-ℤ◌, ◌*ℤ◌, ◌≤ℤ◌, ◌<ℤ◌, int_rem, unsigned_abs}
use Rattle.std.proofs.Common.{sym, ap, ◌∙◌, mod-lt, mod-eq_of_lt, arith, pow_pos}
use Rattle.std.proofs.Math.Nat.{mod-le}
use Rattle.std.proofs.Math.IntN.{+ℤ_one, suc_ℤ-*ℤ}
use Rattle.std.specs.Int.Signed.{shr_z}
use Rattle.std.proofs.lemmas.Nat.{div-add-mod'}
use Rattle.std.proofs.lemmas.Int.{ints, quot-rem, rem_below}
use Rattle.words.specs.Words.{codes_of, signed, residue, in_signed}
use Rattle.words.specs.Arithmetic.{Exact}
use Rattle.words.specs.Powers.{halves}

-- a remainder is a code
pub residue_code : (w : ℕ) (z : ℤ) → residue w z < codes_of w
residue_code w (pos n) = mod-lt n (pow_pos w)
residue_code w (negsuc n) = let p = pow_pos w in omega arith

-- a number is its remainder and its quotient, rounded down, times 2^w
residue_rest : (w : ℕ) (z : ℤ) → z ≡ pos (residue w z) +ℤ shr_z z (codes_of w) *ℤ pos (codes_of w)
residue_rest w (pos n) = ap pos (omega (arith, div-add-mod' n (codes_of w)))
residue_rest w (negsuc n) = let r = mod-lt n (pow_pos w) in omega (arith, ints, div-add-mod' n (codes_of w))

signed_range : (w : ℕ) → 1 ≤ w → (c : ℕ) → c < codes_of w → in_signed w (signed w c) ≡ true
signed_range w low c h = let d = halves w low in grind (arith, ints)

-- a code less 2^w has the code as remainder
minus_code : (w c : ℕ) → c < codes_of w → residue w (pos c -ℤ pos (codes_of w)) ≡ c
minus_code w c h = grind (arith, ints, mod-eq_of_lt)

signed_code : (w c : ℕ) → c < codes_of w → residue w (signed w c) ≡ c
signed_code w c h = let m = minus_code w c h in let l = mod-eq_of_lt h in grind arith

-- one more in a factor adds the other factor
next_times : (x k : ℤ) → (x +ℤ pos 1) *ℤ k ≡ x *ℤ k +ℤ k
next_times x k = ap (λ y. y *ℤ k) (+ℤ_one x) ∙ suc_ℤ-*ℤ x k

rest_sign : (z d : ℤ) → (pos 0 ≤ℤ z → pos 0 ≤ℤ int_rem z d) × (z ≤ℤ pos 0 → int_rem z d ≤ℤ pos 0)
rest_sign (pos a) d = (λ _. omega (arith, ints), λ h. omega (arith, ints, mod-le a (unsigned_abs d)))
rest_sign (negsuc a) d = (λ h. absurd h.le, λ _. omega (arith, ints))

shift_low : (z : ℤ) (m : ℕ) → 0 < m → (shr_z z m *ℤ pos m) ≤ℤ z
shift_low (pos a) m h = omega (arith, ints, div-add-mod' a m)
shift_low (negsuc a) m h = omega (arith, ints, div-add-mod' a m, mod-lt a h)

shift_high : (z : ℤ) (m : ℕ) → 0 < m → z <ℤ ((shr_z z m +ℤ pos 1) *ℤ pos m)
shift_high (pos a) m h = omega (arith, ints, div-add-mod' a m, mod-lt a h)
shift_high (negsuc a) m h = omega (arith, ints, next_times (negsuc (a / m)) (pos m), div-add-mod' a m, mod-lt a h)

pub words_exact : (w : ℕ) → 1 ≤ w → Exact w
words_exact w low = record {
  residue_code = residue_code w;
  residue_rest = λ z. (shr_z z (codes_of w), residue_rest w z);
  signed_range = signed_range w low;
  signed_code = signed_code w;
  division = λ z d _. sym (quot-rem z d);
  rest_small = λ z d h. rem_below z d (omega (arith, ints));
  rest_sign = rest_sign;
  shift_down = λ z s. (shift_low z (2 ^ s) (pow_pos s), shift_high z (2 ^ s) (pow_pos s));
}
