-- The instruction that is found in a record is the one that stands there. Assumes nothing.
use Rattle.std.proofs.Common.{◌≡◌, ℕ, Bool, true, false, cond, T, eqb, List, [], ◌∷◌, Some, None, Option, sym, refl, ap, ◌∙◌, inl, inr, arith, eqb→eq}
use Rattle.domain.specs.Model.{Model}
use Rattle.semantics.specs.Programs.{Placed, Ordered}
use Rattle.semantics.specs.Rules.{Stands}
use Rattle.semantics.specs.Fitting.{look, passes}
use Rattle.semantics.specs.declared.Instruction.{Instruction}
use Rattle.semantics.proofs.Members.{same_test, other_test, Each}
use Rattle.semantics.proofs.Order.{next_apart}

-- what is found stands there
pub look_stands : (xs : List Placed) (r : ℕ) (i : Instruction) → look xs r ≡ Some i → Stands xs r i
look_stands [] r i e = let z : ◌≡◌ {A = ℕ} 0 1 = cc in absurd (omega arith)
look_stands (x ∷ xs) r i e = go (eqb x.at r) (eqb→eq x.at r) (look_stands xs r i) e
  where
    go : (b : Bool) → (T b → x.at ≡ r) → (look xs r ≡ Some i → Stands xs r i) → cond b (Some x.what) (look xs r) ≡ Some i → Stands (x ∷ xs) r i
    go true same rest e = inl (same tt, cc)
    go false same rest e = inr (rest e)

-- what stands in a record of a body in order is found there
pub stands_look : (m : Model) (n : ℕ) (e : List ℕ) (xs : List Placed) → Ordered m n e xs → Each xs (λ r i. look xs r ≡ Some i)
stands_look m n e [] o r i s = absurd s
stands_look m n e (x ∷ xs) o r i (inl a) = ap (λ b. cond b (Some x.what) (look xs r)) (same_test a.0) ∙ ap Some a.1
stands_look m n e (x ∷ xs) o r i (inr s) = ap (λ b. cond b (Some x.what) (look xs r)) (other_test (λ same. next_apart m n e x xs o r i s (sym same))) ∙ stands_look m n (x.at ∷ e) xs o.4 r i s

-- at most one instruction stands in a record
pub stands_once : (m : Model) (n : ℕ) (e : List ℕ) (xs : List Placed) → Ordered m n e xs → (r : ℕ) (i j : Instruction) → Stands xs r i → Stands xs r j → i ≡ j
stands_once m n e xs o r i j s t =
    let a = stands_look m n e xs o r i s in
    let b = stands_look m n e xs o r j t in
    cc

-- a test of what is found
pub passes_some : (t : Instruction → Bool) (o : Option Instruction) → T (passes t o) → (i : Instruction) × (o ≡ Some i) × T (t i)
passes_some t None h = absurd h
passes_some t (Some i) h = (i, refl, h)
