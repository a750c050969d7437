-- What a word may be: a name, a number, a code. Assumes nothing.
use Rattle.std.specs.Prelude.{ℕ, Bool, true, false, ◌&&◌, ◌||◌, List, [], ◌∷◌, length, ℤ, pos, neg_ℤ, Some, None, Option, ◌==◌, nat_le}
use Rattle.semantics.specs.Programs.{all}
use Rattle.scan.specs.Pieces.{Bytes}
use Rattle.scan.specs.Numbers.{digit, digits}

abbrev pub any : {A : Type 0} → (A → Bool) → List A → Bool
any test [] = false
any test (x ∷ xs) = test x || any test xs

abbrev pub only_if : {A : Type 0} → Bool → A → Option A
only_if true x = Some x
only_if false x = None

abbrev pub and_then : {A B : Type 0} → Option A → (A → Option B) → Option B
and_then (Some x) f = f x
and_then None f = None

abbrev pub or_else : {A : Type 0} → Option A → Option A → Option A
or_else (Some x) y = Some x
or_else None y = y

-- each word is of a kind
abbrev pub each : {A : Type 0} → (Bytes → Option A) → List Bytes → Option (List A)
each kind [] = Some []
each kind (w ∷ ws) = and_then (kind w) (λ x. and_then (each kind ws) (λ xs. Some (x ∷ xs)))

abbrev pub letter : ℕ → Bool
letter b = nat_le 65 b && nat_le b 90 || nat_le 97 b && nat_le b 122

-- 1 to 15 letters or digits
abbrev pub plain : Bytes → Bool
plain w = nat_le 1 (length w) && nat_le (length w) 15 && all (λ b. letter b || digit b) w

-- what follows a sign
abbrev pub after : ℕ → Bytes → Option Bytes
after sign [] = None
after sign (b ∷ w) = only_if (sign == b) w

-- `%` and 1 to 15 letters or digits, which are the name
abbrev pub name : Bytes → Option Bytes
name w = and_then (after 37 w) (λ n. only_if (plain n) n)

-- a word in an operand's place
pub data Argument : Type 0 where
  a_name : Bytes → Argument
  a_number : ℤ → Argument
  a_code : ℕ → Argument

-- a constant is a number, which is digits or `-` and digits, or `#` and digits
abbrev pub constant_argument : Bytes → Option Argument
constant_argument w =
    or_else (and_then (digits w) (λ v. Some (a_number (pos v))))
    (or_else (and_then (after 45 w) (λ d. and_then (digits d) (λ v. Some (a_number (neg_ℤ (pos v))))))
    (and_then (after 35 w) (λ d. and_then (digits d) (λ v. Some (a_code v)))))

abbrev pub argument : Bytes → Option Argument
argument w = or_else (and_then (name w) (λ n. Some (a_name n))) (constant_argument w)
