-- Words of a width from 1 to 8, by exact integers. Assumes nothing.
use Rattle.std.specs.Prelude.{ℕ, ◌-◌, ◌/◌, ◌%◌, ◌^◌, Bool, true, false, cond, not, ◌&&◌, ◌||◌, ℤ, pos, negsuc, ◌+ℤ◌, ◌-ℤ◌, ◌*ℤ◌, neg_ℤ, Some, None, ◌==◌, bit_and, bit_or, bit_xor, int_div, int_le, int_lt, int_rem, nat_le, nat_lt, unsigned_abs, Ok}
use Rattle.std.specs.Int.Signed.{shr_z}
use Rattle.vocabulary.specs.declared.operation.Operation.{Operation}
use Rattle.vocabulary.specs.declared.operation.Operation.TheVariants.{Add, Sub, Mul, Shl, Lshr, Ashr, Udiv, Urem, Sdiv, Srem, And, Or, Xor, Eq, Ne, Ult, Ule, Slt, Sle, Copy, Freeze, Select}
use Rattle.domain.specs.declared.Truth.TheVariants.{Yes, No, Neither}
use Rattle.domain.specs.Model.{Model, Outcome, trap}

-- codes are 0 to 2^w - 1
abbrev pub codes_of : ℕ → ℕ
codes_of w = 2 ^ w

-- "least", the first code whose signed reading is negative
abbrev pub least_of : ℕ → ℕ
least_of w = 2 ^ (w - 1)

-- the signed reading of a code: itself below least, else itself minus 2^w
abbrev pub signed : ℕ → ℕ → ℤ
signed w c = cond (nat_lt c (least_of w)) (pos c) (pos c -ℤ pos (codes_of w))

-- the remainder by 2^w, which is 0 to 2^w - 1: that of -1 - n counts down from the last code
abbrev pub residue : ℕ → ℤ → ℕ
residue w (pos n) = n % codes_of w
residue w (negsuc n) = codes_of w - 1 - n % codes_of w

-- the unsigned range is 0 to 2^w - 1, the signed one -2^(w-1) to 2^(w-1) - 1
abbrev pub in_unsigned : ℕ → ℤ → Bool
in_unsigned w z = int_le (pos 0) z && int_lt z (pos (codes_of w))

abbrev pub in_signed : ℕ → ℤ → Bool
in_signed w z = int_le (neg_ℤ (pos (least_of w))) z && int_lt z (pos (least_of w))

-- nuw where the exact unsigned result leaves the unsigned range, nsw where the exact signed one leaves the signed range
unfoldable pub overflow : ℕ → ℤ → ℤ → ℕ
overflow w u s = bit_or (cond (in_unsigned w u) 0 1) (cond (in_signed w s) 0 2)

-- exact where a division toward zero leaves a rest
abbrev pub rest : ℤ → ℤ → ℕ
rest z d = cond (unsigned_abs (int_rem z d) == 0) 0 4

-- sdiv of least by -1, which is the last code
abbrev pub least_by_minus_one : ℕ → ℕ → ℕ → Bool
least_by_minus_one w a b = a == least_of w && b == codes_of w - 1

-- a comparison gives 1 or 0
abbrev pub flag : Bool → Outcome
flag true = Ok 1
flag false = Ok 0

-- the outcome of an operation at two codes of the width
abbrev pub result_of : ℕ → Operation → ℕ → ℕ → Outcome
result_of w Add a b = Ok (residue w (pos a +ℤ pos b))
result_of w Sub a b = Ok (residue w (pos a -ℤ pos b))
result_of w Mul a b = Ok (residue w (pos a *ℤ pos b))
result_of w Shl a b = Ok (cond (nat_lt b w) (residue w (pos a *ℤ pos (2 ^ b))) 0)
result_of w Lshr a b = Ok (a / 2 ^ b)
result_of w Ashr a b = Ok (residue w (shr_z (signed w a) (2 ^ b)))
result_of w Udiv a b = cond (b == 0) trap (Ok (a / b))
result_of w Urem a b = cond (b == 0) trap (Ok (a % b))
result_of w Sdiv a b = cond (b == 0 || least_by_minus_one w a b) trap (Ok (residue w (int_div (signed w a) (signed w b))))
result_of w Srem a b = cond (b == 0) trap (Ok (residue w (int_rem (signed w a) (signed w b))))
result_of w And a b = Ok (bit_and a b)
result_of w Or a b = Ok (bit_or a b)
result_of w Xor a b = Ok (bit_xor a b)
result_of w Eq a b = flag (a == b)
result_of w Ne a b = flag (not (a == b))
result_of w Ult a b = flag (nat_lt a b)
result_of w Ule a b = flag (nat_le a b)
result_of w Slt a b = flag (int_lt (signed w a) (signed w b))
result_of w Sle a b = flag (int_le (signed w a) (signed w b))
result_of w Copy a b = trap
result_of w Freeze a b = trap
result_of w Select a b = trap

-- the marks that an operation breaks at two codes of the width: nuw 1, nsw 2, exact 4, range 8
abbrev pub breaks : ℕ → Operation → ℕ → ℕ → ℕ
breaks w Add a b = overflow w (pos a +ℤ pos b) (signed w a +ℤ signed w b)
breaks w Sub a b = overflow w (pos a -ℤ pos b) (signed w a -ℤ signed w b)
breaks w Mul a b = overflow w (pos a *ℤ pos b) (signed w a *ℤ signed w b)
breaks w Shl a b = cond (nat_lt b w) (overflow w (pos a *ℤ pos (2 ^ b)) (signed w a *ℤ pos (2 ^ b))) 8
breaks w Lshr a b = cond (nat_lt b w) (rest (pos a) (pos (2 ^ b))) 8
breaks w Ashr a b = cond (nat_lt b w) (rest (signed w a) (pos (2 ^ b))) 8
breaks w Udiv a b = cond (b == 0) 0 (rest (pos a) (pos b))
breaks w Urem a b = 0
breaks w Sdiv a b = cond (b == 0 || least_by_minus_one w a b) 0 (rest (signed w a) (signed w b))
breaks w Srem a b = 0
breaks w And a b = 0
breaks w Or a b = 0
breaks w Xor a b = 0
breaks w Eq a b = 0
breaks w Ne a b = 0
breaks w Ult a b = 0
breaks w Ule a b = 0
breaks w Slt a b = 0
breaks w Sle a b = 0
breaks w Copy a b = 0
breaks w Freeze a b = 0
breaks w Select a b = 0

abbrev pub is_code : ℕ → ℕ → Bool
is_code w c = nat_lt c (codes_of w)

-- each code is settled and refines itself alone; marks are ignored in compute
abbrev pub words : ℕ → Model
words w = record {
  size = codes_of w;
  literal = λ z. cond (int_le (neg_ℤ (pos (least_of w))) z && int_lt z (pos (codes_of w))) (Some (residue w z)) None;
  settled = is_code w;
  refines = λ a b. (a == b) && is_code w a;
  truth = λ c. cond (is_code w c) (cond (c == 0) No Yes) Neither;
  worst = 0;
  broken = λ op a b. cond (is_code w a && is_code w b) (breaks w op a b) 0;
  compute = λ op marks a b. cond (is_code w a && is_code w b) (result_of w op a b) trap;
}
