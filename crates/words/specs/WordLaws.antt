-- Words keep the laws of a domain.
use Rattle.std.specs.Prelude.{◌≡◌, ℕ, ◌/◌, ◌%◌, ◌^◌, ◌<◌, ◌≤◌, Bool, true, false, cond, not, ◌&&◌, ◌||◌, T, ◌⊎◌, pos, ◌+ℤ◌, ◌-ℤ◌, ◌*ℤ◌, Some, None, ◌==◌, ◌≢◌, int_div, int_le, int_lt, int_rem, nat_le, nat_lt, refl, Ok}
use Rattle.std.proofs.Common.{ap, subst, ◌∙◌, ⊎_elim, div-le_self, arith, pow_pos}
use Rattle.std.proofs.Math.Nat.{mod-le}
use Rattle.std.specs.Int.Bits.{and_lt}
use Rattle.std.proofs.lemmas.Nat.{or_lt, xor_lt}
use Rattle.std.specs.Int.Signed.{shr_z}
use Rattle.std.proofs.lemmas.Bool.{and_parts, and_from, and_left, and_right, eqb-true, eq-eqb, ltb-true, lt-ltb, le-ltb, cond-false, cond_both}
use Rattle.vocabulary.specs.declared.operation.Operation.{Operation}
use Rattle.vocabulary.specs.declared.operation.Operation.TheVariants.{Add, Sub, Mul, Shl, Lshr, Ashr, Udiv, Urem, Sdiv, Srem, And, Or, Xor, Eq, Ne, Ult, Ule, Slt, Sle, Copy, Freeze, Select}
use Rattle.domain.specs.declared.Truth.TheVariants.{Yes, No, Neither}
use Rattle.domain.specs.Model.{Lawful, Outside, Within, OutcomeRefines, Outcome, trap}
use Rattle.words.specs.Words.{codes_of, signed, residue, least_by_minus_one, flag, result_of, breaks, is_code, words}
use Rattle.domain.proofs.Sets.{within_self}
use Rattle.words.specs.Powers.{few_codes, some_codes}
use Rattle.words.specs.ArithmeticLemmas.{residue_code}
use Rattle.domain.proofs.Outcomes.{holds, shown}

-- an outcome is a trap or a code below a bound
abbrev Below : ℕ → Outcome → Type 0
Below n (Ok c) = c < n
Below n trap = Unit {0}

below_code : (n : ℕ) (o : Outcome) (c : ℕ) → Below n o → o ≡ Ok c → c < n
below_code n o c h e = subst (Below n) e h

below_unless : (n : ℕ) (s : Bool) (o : Outcome) → Below n o → Below n (cond s trap o)
below_unless n true o h = tt
below_unless n false o h = h

below_flag : (w : ℕ) → 1 ≤ w → (s : Bool) → Below (codes_of w) (flag s)
below_flag w h true = let n = some_codes w h in omega arith
below_flag w h false = let n = some_codes w h in omega arith

-- the outcomes of words are codes or traps
result_code : (w : ℕ) → 1 ≤ w → (op : Operation) (a b : ℕ) → a < codes_of w → b < codes_of w → Below (codes_of w) (result_of w op a b)
result_code w low Add a b p q = residue_code w (pos a +ℤ pos b)
result_code w low Sub a b p q = residue_code w (pos a -ℤ pos b)
result_code w low Mul a b p q = residue_code w (pos a *ℤ pos b)
result_code w low Shl a b p q = cond_both (nat_lt b w) (residue w (pos a *ℤ pos (2 ^ b))) 0 (λ x. x < codes_of w) (λ _. residue_code w (pos a *ℤ pos (2 ^ b))) (λ _. pow_pos w)
result_code w low Lshr a b p q = let h = div-le_self a (2 ^ b) in omega arith
result_code w low Ashr a b p q = residue_code w (shr_z (signed w a) (2 ^ b))
result_code w low Udiv a b p q = below_unless (codes_of w) (b == 0) (Ok (a / b)) (let h = div-le_self a b in omega arith)
result_code w low Urem a b p q = below_unless (codes_of w) (b == 0) (Ok (a % b)) (let h = mod-le a b in omega arith)
result_code w low Sdiv a b p q = below_unless (codes_of w) (b == 0 || least_by_minus_one w a b) (Ok (residue w (int_div (signed w a) (signed w b)))) (residue_code w (int_div (signed w a) (signed w b)))
result_code w low Srem a b p q = below_unless (codes_of w) (b == 0) (Ok (residue w (int_rem (signed w a) (signed w b)))) (residue_code w (int_rem (signed w a) (signed w b)))
result_code w low And a b p q = and_lt w a b p q
result_code w low Or a b p q = or_lt w a b p q
result_code w low Xor a b p q = xor_lt w a b p q
result_code w low Eq a b p q = below_flag w low (a == b)
result_code w low Ne a b p q = below_flag w low (not (a == b))
result_code w low Ult a b p q = below_flag w low (nat_lt a b)
result_code w low Ule a b p q = below_flag w low (nat_le a b)
result_code w low Slt a b p q = below_flag w low (int_lt (signed w a) (signed w b))
result_code w low Sle a b p q = below_flag w low (int_le (signed w a) (signed w b))
result_code w low Copy a b p q = tt
result_code w low Freeze a b p q = tt
result_code w low Select a b p q = tt

guarded_code : (n : ℕ) (s : Bool) (o : Outcome) → (s ≡ true → Below n o) → Below n (cond s o trap)
guarded_code n true o h = h refl
guarded_code n false o h = tt

compute_below : (w : ℕ) → 1 ≤ w → (op : Operation) (marks a b : ℕ) → Below (codes_of w) ((words w).compute op marks a b)
compute_below w low op marks a b =
    guarded_code (codes_of w) (is_code w a && is_code w b) (result_of w op a b)
    (λ e. let p = and_parts (is_code w a) (is_code w b) e in result_code w low op a b (ltb-true a (codes_of w) p.0) (ltb-true b (codes_of w) p.1))

-- a code refines itself alone
same : (w a b : ℕ) → T ((words w).refines a b) → (a ≡ b) × (a < codes_of w)
same w a b r = let p = and_parts (a == b) (is_code w a) (holds _ r) in (eqb-true a b p.0, ltb-true a (codes_of w) p.1)

itself : (w a : ℕ) → a < codes_of w → T ((words w).refines a a)
itself w a h = shown _ (and_from (a == a) (is_code w a) (eq-eqb a a refl) (lt-ltb a (codes_of w) h))

outcome_itself : (w : ℕ) (o : Outcome) → Below (codes_of w) o → OutcomeRefines (words w) o o
outcome_itself w (Ok c) h = itself w c h
outcome_itself w trap h = tt

-- what holds of equal operands holds where they refine
both_same : (w a b a2 b2 : ℕ) (P : ℕ → ℕ → Type 0) → T ((words w).refines a a2) → T ((words w).refines b b2) → P a b → P a2 b2
both_same w a b a2 b2 P r s p = subst (λ x. P x b2) (same w a a2 r).0 (subst (P a) (same w b b2 s).0 p)

literal_code : (s : Bool) (x c n : ℕ) → x < n → cond s (Some x) None ≡ Some c → c < n
literal_code true x c n h e = let z : x ≡ c = cc in omega arith
literal_code false x c n h e = cc

no_neither : (s t : Bool) → s ≡ true → cond s (cond t No Yes) Neither ≢ Neither
no_neither true true e f = cc
no_neither true false e f = cc
no_neither false t e f = cc

-- copy, freeze and select are not computed
other_result : (w : ℕ) (op : Operation) (a b : ℕ) → (op ≡ Copy) ⊎ ((op ≡ Freeze) ⊎ (op ≡ Select)) → result_of w op a b ≡ trap
other_result w op a b o = ⊎_elim (λ e. ap (λ x. result_of w x a b) e) (⊎_elim (λ e. ap (λ x. result_of w x a b) e) (λ e. ap (λ x. result_of w x a b) e)) o

other_breaks : (w : ℕ) (op : Operation) (a b : ℕ) → (op ≡ Copy) ⊎ ((op ≡ Freeze) ⊎ (op ≡ Select)) → breaks w op a b ≡ 0
other_breaks w op a b o = ⊎_elim (λ e. ap (λ x. breaks w x a b) e) (⊎_elim (λ e. ap (λ x. breaks w x a b) e) (λ e. ap (λ x. breaks w x a b) e)) o

not_both : (w a b : ℕ) → (codes_of w ≤ a) ⊎ (codes_of w ≤ b) → (is_code w a && is_code w b) ≡ false
not_both w a b h = ⊎_elim (λ p. and_left _ _ (le-ltb a (codes_of w) p)) (λ p. and_right (is_code w a) _ (le-ltb b (codes_of w) p)) h

words_trap : (w : ℕ) (op : Operation) (marks a b : ℕ) → Outside (words w) op a b → (words w).compute op marks a b ≡ trap
words_trap w op marks a b o =
    ⊎_elim (λ h. cond-false (is_code w a && is_code w b) (result_of w op a b) trap (not_both w a b h))
    (λ h. cond_both (is_code w a && is_code w b) (result_of w op a b) trap (λ x. x ≡ trap) (λ _. other_result w op a b h) (λ _. refl)) o

words_break_none : (w : ℕ) (op : Operation) (a b : ℕ) → Outside (words w) op a b → (words w).broken op a b ≡ 0
words_break_none w op a b o =
    ⊎_elim (λ h. cond-false (is_code w a && is_code w b) (breaks w op a b) 0 (not_both w a b h))
    (λ h. cond_both (is_code w a && is_code w b) (breaks w op a b) 0 (λ x. x ≡ 0) (λ _. other_breaks w op a b h) (λ _. refl)) o

pub words_lawful : (w : ℕ) → 1 ≤ w → w ≤ 8 → Lawful (words w)
words_lawful w low high = record {
  least_size = some_codes w low;
  most_size = let n = few_codes w high in omega arith;
  refines_refl = itself w;
  refines_trans = λ a b c r s. subst (λ x. T ((words w).refines a x)) (same w b c s).0 r;
  compute_mono = λ op marks a b a2 b2 r s. both_same w a b a2 b2 (λ x y. OutcomeRefines (words w) ((words w).compute op marks a b) ((words w).compute op marks x y)) r s (outcome_itself w ((words w).compute op marks a b) (compute_below w low op marks a b));
  broken_mono = λ op a b a2 b2 r s. both_same w a b a2 b2 (λ x y. Within ((words w).broken op a b) ((words w).broken op x y)) r s (within_self ((words w).broken op a b));
  truth_yes = λ a b r e. ap (words w).truth (same w a b r).0 ∙ e;
  truth_no = λ a b r e. ap (words w).truth (same w a b r).0 ∙ e;
  worst_top = λ c h e. absurd (no_neither (is_code w c) (c == 0) (lt-ltb c (codes_of w) h) e);
  settled_down = λ a b r t. shown _ (lt-ltb a (codes_of w) (same w a b r).1);
  some_settled = (0, shown _ (lt-ltb 0 (codes_of w) (pow_pos w)));
  literal_settled = λ z c e. shown _ (lt-ltb c (codes_of w) (literal_code _ (residue w z) c (codes_of w) (residue_code w z) e));
  worst_code = pow_pos w;
  settled_code = λ a t. ltb-true a (codes_of w) (holds _ t);
  refines_codes = λ a b r. let p = same w a b r in (p.1, omega arith);
  compute_code = λ op marks a b c e. below_code (codes_of w) ((words w).compute op marks a b) c (compute_below w low op marks a b) e;
  truth_code = λ a h. cond-false (is_code w a) (cond (a == 0) No Yes) Neither (le-ltb a (codes_of w) h);
  compute_outside = words_trap w;
  broken_outside = words_break_none w;
}
