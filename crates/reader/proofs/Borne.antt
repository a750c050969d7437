-- The marks that an instruction bears: those that it bears unwritten and the written ones share none. Assumes nothing.
use Rattle.std.proofs.Common.{◌≡◌, ℕ, ◌+◌, ◌<◌, false, not, eqb, List, [], ◌∷◌, sym, zero-add, arith}
use lib.Bits.{bit_or, or_shifted}
use Rattle.std.proofs.lemmas.Bool.{or_parts}
use Rattle.std.proofs.lemmas.Bool.Decides.{nat_tests}
use Rattle.vocabulary.specs.declared.operation.Operation.{Operation}
use Rattle.vocabulary.specs.declared.operation.Operation.TheVariants.{Add, Sub, Mul, Shl, Lshr, Ashr, Udiv, Urem, Sdiv, Srem, And, Or, Xor, Eq, Ne, Ult, Ule, Slt, Sle, Copy, Freeze, Select}
use Rattle.semantics.specs.Operations.{facts}
use Rattle.semantics.specs.Programs.{has}
use Rattle.text.specs.Words.{any}
use Rattle.text.specs.Instructions.{sum, repeated, bad_marks}

-- there are no three of two marks, and no two of one
three_of_two : (x y z : ℕ) → not (has x (1 ∷ 2 ∷ [])) ≡ false → not (has y (1 ∷ 2 ∷ [])) ≡ false → not (has z (1 ∷ 2 ∷ [])) ≡ false → eqb x y ≡ false → eqb x z ≡ false → eqb y z ≡ false → ⊥
three_of_two x y z a b c d e f = grind (arith, nat_tests)

two_of_one : (x y : ℕ) → not (has x (4 ∷ [])) ≡ false → not (has y (4 ∷ [])) ≡ false → eqb x y ≡ false → ⊥
two_of_one x y a b d = grind (arith, nat_tests)

below_two : (ms : List ℕ) → any (λ x. not (has x (1 ∷ 2 ∷ []))) ms ≡ false → repeated ms ≡ false → sum ms < 8
below_two [] h r = omega arith
below_two (x ∷ []) h r = grind (arith, nat_tests)
below_two (x ∷ y ∷ []) h r = grind (arith, nat_tests)
below_two (x ∷ y ∷ z ∷ ms) h r =
    let (x-in, later) = or_parts (not (has x (1 ∷ 2 ∷ []))) _ h in
    let (y-in, others) = or_parts (not (has y (1 ∷ 2 ∷ []))) _ later in
    let (x-once, once) = or_parts (has x (y ∷ z ∷ ms)) _ r in
    let (x-y, x-rest) = or_parts (eqb x y) _ x-once in
    absurd
    (three_of_two x y z x-in y-in (or_parts (not (has z (1 ∷ 2 ∷ []))) _ others).0 x-y (or_parts (eqb x z) _ x-rest).0
    (or_parts (eqb y z) _ (or_parts (has y (z ∷ ms)) _ once).0).0)

below_one : (ms : List ℕ) → any (λ x. not (has x (4 ∷ []))) ms ≡ false → repeated ms ≡ false → sum ms < 8
below_one [] h r = omega arith
below_one (x ∷ []) h r = grind (arith, nat_tests)
below_one (x ∷ y ∷ ms) h r =
    let (x-in, later) = or_parts (not (has x (4 ∷ []))) _ h in
    absurd (two_of_one x y x-in (or_parts (not (has y (4 ∷ []))) _ later).0 (or_parts (eqb x y) _ (or_parts (has x (y ∷ ms)) _ r).0).0)

range_more : (ms : ℕ) → ms < 8 → bit_or 8 ms ≡ 8 + ms
range_more ms h = or_shifted 1 3 ms h

-- the union of the unwritten and the written marks has the sum of their numbers
pub borne : (op : Operation) (ms : List ℕ) → bad_marks op ms ≡ false → bit_or (facts op).unwritten (sum ms) ≡ (facts op).unwritten + sum ms
borne Add ms h = sym (zero-add (sum ms))
borne Sub ms h = sym (zero-add (sum ms))
borne Mul ms h = sym (zero-add (sum ms))
borne Shl ms h = let (allowed, once) = or_parts (any (λ x. not (has x (1 ∷ 2 ∷ []))) ms) _ h in range_more (sum ms) (below_two ms allowed once)
borne Lshr ms h = let (allowed, once) = or_parts (any (λ x. not (has x (4 ∷ []))) ms) _ h in range_more (sum ms) (below_one ms allowed once)
borne Ashr ms h = let (allowed, once) = or_parts (any (λ x. not (has x (4 ∷ []))) ms) _ h in range_more (sum ms) (below_one ms allowed once)
borne Udiv ms h = sym (zero-add (sum ms))
borne Urem ms h = sym (zero-add (sum ms))
borne Sdiv ms h = sym (zero-add (sum ms))
borne Srem ms h = sym (zero-add (sum ms))
borne And ms h = sym (zero-add (sum ms))
borne Or ms h = sym (zero-add (sum ms))
borne Xor ms h = sym (zero-add (sum ms))
borne Eq ms h = sym (zero-add (sum ms))
borne Ne ms h = sym (zero-add (sum ms))
borne Ult ms h = sym (zero-add (sum ms))
borne Ule ms h = sym (zero-add (sum ms))
borne Slt ms h = sym (zero-add (sum ms))
borne Sle ms h = sym (zero-add (sum ms))
borne Copy ms h = sym (zero-add (sum ms))
borne Freeze ms h = sym (zero-add (sum ms))
borne Select ms h = sym (zero-add (sum ms))
