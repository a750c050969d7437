-- What passed tests tell, and what makes them pass. Assumes nothing.
use Rattle.std.proofs.Common.{◌≡◌, ℕ, zero, suc, ◌<◌, Bool, true, false, not, ◌&&◌, ◌||◌, T, eqb, ◌⊎◌, List, [], ◌∷◌, get_or, sym, refl, ap, ◌∙◌, subst, inl, inr, ⊎_elim, arith, eqb→eq}
use mathlib.Core.Path.{subst⁻¹}
use lib.Dec.{eqb_refl}
use Rattle.semantics.specs.Programs.{All, all, has}
use Rattle.semantics.specs.Rules.{Distinct}
use Rattle.semantics.specs.Fitting.{Pairwise, pairwise, same_operand, all_below, distinct}
use Rattle.vocabulary.specs.Names.{operations, number_of}
use Rattle.vocabulary.specs.declared.operation.Operation.{Operation}
use Rattle.vocabulary.specs.declared.operation.Operation.TheVariants.{Add, Sub, Mul, Shl, Lshr, Ashr, Udiv, Urem, Sdiv, Srem, And, Or, Xor, Eq, Ne, Ult, Ule, Slt, Sle, Copy, Freeze, Select}
use Rattle.semantics.specs.declared.Operand.{Operand}
use Rattle.semantics.specs.declared.Operand.TheVariants.{Input, Record, Constant}
use Rattle.semantics.proofs.Members.{same?, same_eqb}

-- both tests pass
pub both : (a b : Bool) → T (a && b) → T a × T b
both true b t = (tt, t)
both false b t = absurd t

-- two passed tests pass together
pub and_both : (a b : Bool) → T a → T b → T (a && b)
and_both true b s t = t
and_both false b s t = absurd s

-- one of two tests passes
pub or_one : (a b : Bool) → T a ⊎ T b → T (a || b)
or_one true b s = tt
or_one false b (inl s) = absurd s
or_one false b (inr t) = t

-- a test of all elements
pub all_holds : {A : Type 0} (t : A → Bool) (P : A → Type 0) → ((x : A) → T (t x) → P x) → (xs : List A) → T (all t xs) → All P xs
all_holds t P f [] h = tt
all_holds t P f (x ∷ xs) h = let (a, b) = both (t x) (all t xs) h in (f x a, all_holds t P f xs b)

-- where P holds of all, the test of all passes
pub holds_all : {A : Type 0} (t : A → Bool) (P : A → Type 0) → ((x : A) → P x → T (t x)) → (xs : List A) → All P xs → T (all t xs)
holds_all t P f [] h = tt
holds_all t P f (x ∷ xs) h = and_both (t x) (all t xs) (f x h.0) (holds_all t P f xs h.1)

-- a test of all numbers below n
pub below_holds : (n : ℕ) (t : ℕ → Bool) → T (all_below n t) → (v : ℕ) → v < n → T (t v)
below_holds zero t h v l = absurd (omega arith)
below_holds (suc n) t h v l =
    let (a, b) = both (t n) (all_below n t) h in
    ⊎_elim (λ same. subst⁻¹ (λ z. T (t z)) same a) (λ other. below_holds n t b v (omega arith)) (same? v n)

-- and the other way round
pub holds_below : (n : ℕ) (t : ℕ → Bool) → ((v : ℕ) → v < n → T (t v)) → T (all_below n t)
holds_below zero t h = tt
holds_below (suc n) t h = and_both (t n) (all_below n t) (h n (omega arith)) (holds_below n t (λ v l. h v (omega arith)))

-- no repetition
pub distinct_holds : (xs : List ℕ) → T (distinct xs) → Distinct xs
distinct_holds [] h = tt
distinct_holds (x ∷ xs) h = let (a, b) = both (not (has x xs)) (distinct xs) h in (a, distinct_holds xs b)

-- and the other way round
pub holds_distinct : (xs : List ℕ) → Distinct xs → T (distinct xs)
holds_distinct [] h = tt
holds_distinct (x ∷ xs) h = and_both (not (has x xs)) (distinct xs) h.0 (holds_distinct xs h.1)

-- two operands are the same
pub same_operand_holds : (a b : Operand) → T (same_operand a b) → a ≡ b
same_operand_holds (Input a) (Input b) t = ap Input (eqb→eq a b t)
same_operand_holds (Input a) (Record b) t = absurd t
same_operand_holds (Input a) (Constant b) t = absurd t
same_operand_holds (Record a) (Input b) t = absurd t
same_operand_holds (Record a) (Record b) t = ap Record (eqb→eq a b t)
same_operand_holds (Record a) (Constant b) t = absurd t
same_operand_holds (Constant a) (Input b) t = absurd t
same_operand_holds (Constant a) (Record b) t = absurd t
same_operand_holds (Constant a) (Constant b) t = ap Constant (eqb→eq a b t)

-- an operand is the same as itself
operand_itself : (a : Operand) → T (same_operand a a)
operand_itself (Input a) = eqb_refl a
operand_itself (Record a) = eqb_refl a
operand_itself (Constant a) = eqb_refl a

-- equal operands pass the test
pub holds_same_operand : (a b : Operand) → a ≡ b → T (same_operand a b)
holds_same_operand a b e = subst (λ z. T (same_operand a z)) e (operand_itself a)

-- operations are told by their numbers: at the number of one stands that one
numbered_back : (o : Operation) → get_or operations (number_of o) Add ≡ o
numbered_back Add = refl
numbered_back Sub = refl
numbered_back Mul = refl
numbered_back Shl = refl
numbered_back Lshr = refl
numbered_back Ashr = refl
numbered_back Udiv = refl
numbered_back Urem = refl
numbered_back Sdiv = refl
numbered_back Srem = refl
numbered_back And = refl
numbered_back Or = refl
numbered_back Xor = refl
numbered_back Eq = refl
numbered_back Ne = refl
numbered_back Ult = refl
numbered_back Ule = refl
numbered_back Slt = refl
numbered_back Sle = refl
numbered_back Copy = refl
numbered_back Freeze = refl
numbered_back Select = refl

-- operations with the same number are equal
pub same_operation_holds : (a b : Operation) → T (eqb (number_of a) (number_of b)) → a ≡ b
same_operation_holds a b t = sym (numbered_back a) ∙ ap (λ n. get_or operations n Add) (eqb→eq (number_of a) (number_of b) t) ∙ numbered_back b

-- equal operations have the same number
pub holds_same_operation : (a b : Operation) → a ≡ b → T (eqb (number_of a) (number_of b))
holds_same_operation a b e = same_eqb (number_of a) (number_of b) (ap number_of e)

-- a test of two lists of operands, one by one
module _ (t : Operand → Operand → Bool) (P : Operand → Operand → Type 0) where
  -- a passed test tells P of each pair
  pub pairwise_holds : ((s o : Operand) → T (t s o) → P s o) → (ss os : List Operand) → T (pairwise t ss os) → Pairwise P ss os
  pairwise_holds f [] [] h = tt
  pairwise_holds f [] (o ∷ os) h = absurd h
  pairwise_holds f (s ∷ ss) [] h = absurd h
  pairwise_holds f (s ∷ ss) (o ∷ os) h = let (a, b) = both (t s o) (pairwise t ss os) h in (f s o a, pairwise_holds f ss os b)

  -- and the other way round
  pub holds_pairwise : ((s o : Operand) → P s o → T (t s o)) → (ss os : List Operand) → Pairwise P ss os → T (pairwise t ss os)
  holds_pairwise f [] [] h = tt
  holds_pairwise f [] (o ∷ os) h = absurd h
  holds_pairwise f (s ∷ ss) [] h = absurd h
  holds_pairwise f (s ∷ ss) (o ∷ os) h = and_both (t s o) (pairwise t ss os) (f s o h.0) (holds_pairwise f ss os h.1)
