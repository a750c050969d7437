-- Operands as tokens tell them: a number that is told short is outside all the same. Assumes nothing.
use Rattle.std.proofs.Common.{◌≡◌, ℕ, zero, suc, ◌<◌, ◌≤◌, min, Bool, true, false, cond, ◌||◌, ltb, List, [], ◌∷◌, map, length, slice_get, slice_index_or, ℤ, pos, negsuc, neg_ℤ, Some, None, Ok, Err, Option, Result, sym, refl, ap, ◌∙◌, ⊎_elim, arith}
use native.Mathlib.Nat.{min-eq_left, min-eq_right}
use Rattle.std.specs.List.{list_any}
use Rattle.std.proofs.lemmas.Bool.{or_parts, ltb-false, lt-ltb, cases_lt}
use Rattle.domain.specs.declared.fault.DomainFault.{DomainFault}
use Rattle.domain.specs.declared.fault.DomainFault.TheVariants.{NoSettledCode}
use Rattle.domain.specs.Model.{Model}
use Rattle.domain.specs.Faults.{settled_code, settled_if_any}
use Rattle.semantics.specs.declared.Operand.TheVariants.{Constant}
use Rattle.text.specs.Words.{Argument, a_name, a_number, a_code, any}
use Rattle.text.specs.Instructions.{Names, constant, operand, outside, unreadable, refuses, unsettled}
use Rattle.text.proofs.Tests.{no_some}
use Rattle.reader.specs.declared.token.Token.{Token}
use Rattle.reader.specs.Tokens.{Seen, is_number, is_code, capped, seen, told}
use Rattle.reader.specs.Meanings.{far, strange, constant_of, meaning}

-- a cap above a limit leaves what is over the limit over it
over_capped : (limit n : ℕ) → limit < 65536 → ltb limit (min n 65536) ≡ ltb limit n
over_capped limit n l =
    ⊎_elim (λ (h : n < 65536). ap (ltb limit) (min-eq_left (omega arith)))
    (λ (h : 65536 ≤ n). ap (ltb limit) (min-eq_right h) ∙ lt-ltb limit 65536 l ∙ sym (lt-ltb limit n (omega arith)))
    (cases_lt n 65536)

pub far_told : (a : Argument) → far (told a) ≡ outside a
far_told (a_name n) = refl
far_told (a_number (pos v)) = over_capped 255 v (omega arith)
far_told (a_number (negsuc v)) =
    ⊎_elim (λ (h : suc v < 65536). ap (λ n. outside (a_number (neg_ℤ (pos n)))) (min-eq_left {n = suc v} {m = 65536} (omega arith)))
    (λ (h : 65536 ≤ suc v). ap (λ n. outside (a_number (neg_ℤ (pos n)))) (min-eq_right h) ∙ sym (lt-ltb 128 (suc v) (omega arith)))
    (cases_lt (suc v) 65536)
far_told (a_code c) = over_capped 65535 c (omega arith)

pub strange_told : (ns : Names) (a : Argument) → strange ns (told a) ≡ unreadable ns a
strange_told ns (a_name n) = refl
strange_told ns (a_number z) = refl
strange_told ns (a_code c) = refl

-- what is not outside is told as it is
uncapped : (z : ℤ) → outside (a_number z) ≡ false → capped z ≡ z
uncapped (pos v) h = ap (λ n. pos n) (min-eq_left (omega (arith, ltb-false 255 v h)))
uncapped (negsuc v) h = ap (λ n. neg_ℤ (pos n)) (min-eq_left (omega (arith, ltb-false 128 (suc v) h)))

-- a constant's code, or the domain's fault
settled_told : (m : Model) (c : ℕ) → constant_of (settled_code m c) ≡ cond (refuses (settled_code m c)) (Err NoSettledCode) (Ok (Constant c))
settled_told m c = go (m.settled c)
  where
    go : (b : Bool) → let r : Result ℕ DomainFault = cond b (Ok c) (Err NoSettledCode) in constant_of r ≡ cond (refuses r) (Err NoSettledCode) (Ok (Constant c))
    go true = refl
    go false = refl

literal_told : (m : Model) (o : Option ℕ) → constant_of (settled_if_any m o) ≡ cond (refuses (settled_if_any m o)) (Err NoSettledCode) (Ok (constant o))
literal_told m (Some c) = settled_told m c
literal_told m None = refl

pub meaning_told : (m : Model) (ns : Names) (a : Argument) → outside a ≡ false → meaning m ns (told a) ≡ cond (unsettled m a) (Err NoSettledCode) (Ok (operand m ns a))
meaning_told m ns (a_name n) h = refl
meaning_told m ns (a_number z) h = ap (λ n. meaning m ns (is_number n)) (uncapped z h) ∙ literal_told m (m.literal z)
meaning_told m ns (a_code c) h = ap (λ n. meaning m ns (is_code n)) (min-eq_left (omega (arith, ltb-false 65535 c h))) ∙ settled_told m c

-- what is so of some operand, by its token
pub any_told : (f : Seen → Bool) (g : Argument → Bool) → ((a : Argument) → f (told a) ≡ g a) → (xs : List Argument) → any f (map told xs) ≡ any g xs
any_told f g same [] = refl
any_told f g same (a ∷ xs) = (λ j. same a j || any_told f g same xs j)

pub any_seen : (f : Seen → Bool) (ts : List Token) → list_any (λ t. f (seen t)) ts ≡ any f (map seen ts)
any_seen f [] = refl
any_seen f (t ∷ ts) = ap (λ b. f (seen t) || b) (any_seen f ts)

-- the item in a place of a list
pub item_at : {X : Type 0} (xs : List X) (k : ℕ) (x : X) → k < length xs → x ≡ slice_index_or xs k x → slice_get xs k ≡ Some x
item_at [] k x l e = absurd (omega arith)
item_at (y ∷ xs) zero x l e = ap (λ z. Some z) (sym e)
item_at (y ∷ xs) (suc k) x l e = item_at xs k x (omega arith) e

-- what is so of no operand is not so of the one in a place
pub none_at : (f : Seen → Bool) (ts : List Token) (k : ℕ) (t : Token) → any f (map seen ts) ≡ false → slice_get ts k ≡ Some t → f (seen t) ≡ false
none_at f [] k t h e = absurd (no_some (sym e))
none_at f (x ∷ ts) zero t h e = let same : x ≡ t = cc in ap (λ u. f (seen u)) (sym same) ∙ (or_parts (f (seen x)) _ h).0
none_at f (x ∷ ts) (suc k) t h e = none_at f ts k t (or_parts (f (seen x)) _ h).1 e
