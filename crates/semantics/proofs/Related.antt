-- A relation between two valuations that each instruction which stays keeps. Assumes nothing.
use Rattle.std.proofs.Common.{◌≡◌, ℕ, not, T, List, [], ◌∷◌, get_or, subst, ⊎_elim}
use mathlib.Core.Path.{subst⁻¹}
use Rattle.domain.specs.Model.{Model}
use Rattle.semantics.specs.Programs.{Placed, Env, value, reads, records, Readable, All, Ordered}
use Rattle.semantics.specs.Rules.{any_reads}
use Rattle.semantics.specs.declared.Operand.{Operand}
use Rattle.semantics.proofs.Members.{same?, In, in_cases, Each, each_head, each_tail}
use Rattle.semantics.proofs.Operands.{all_untouched}
use Rattle.semantics.proofs.Splice.{Kept}

module _ (m : Model) (n : ℕ) (gone : List ℕ) (at : ℕ) (ins : List ℕ) (ρ σ : Env) (R : ℕ → ℕ → Type 0) (inputs : (k : ℕ) → R (get_or ins k 0) (get_or ins k 0)) (constants : (c : ℕ) → T (m.settled c) → R c c) where
  -- the two values of an operand
  abbrev Both : Operand → Type 0
  Both o = R (value ins ρ o) (value ins σ o)

  pub operands_related : (e : List ℕ) → ((k : ℕ) → In k e → (In k gone → ⊥) → R (ρ k) (σ k)) → (os : List Operand) → T (not (any_reads gone os)) → All (Readable m n e) os → All Both os
  operands_related e h os t a = all_untouched m n e gone Both (λ k l. inputs k) h constants os t a

  -- what each instruction that stays keeps, and what holds at the place, holds of all that stays
  pub related : (e : List ℕ) (xs : List Placed) → Ordered m n e xs → ((k : ℕ) → In k e → (In k gone → ⊥) → R (ρ k) (σ k)) →
      Each xs (λ r i. r ≡ at → R (ρ r) (σ r)) → Each xs (λ r i. Kept gone at r → T (not (any_reads gone (reads i)))) → Each xs (λ r i. Kept gone at r → All Both (reads i) → R (ρ r) (σ r)) →
      (k : ℕ) → In k (records xs) → (In k gone → ⊥) → R (ρ k) (σ k)
  related e [] o so_far place unread keeps k h g = absurd h
  related e (x ∷ xs) o so_far place unread keeps k h g =
      ⊎_elim
      (λ same. at_x k same g)
      (λ t. related (x.at ∷ e) xs o.4 (λ k h g. ⊎_elim (λ same. at_x k same g) (λ old. so_far k old g) (in_cases k x.at e h)) (each_tail x xs place) (each_tail x xs unread) (each_tail x xs keeps) k t g)
      (in_cases k x.at (records xs) h)
    where
      here : (In x.at gone → ⊥) → R (ρ x.at) (σ x.at)
      here g =
          ⊎_elim
          (each_head x xs place)
          (λ other. each_head x xs keeps (other, g) (operands_related e so_far (reads x.what) (each_head x xs unread (other, g)) o.3))
          (same? x.at at)

      at_x : (k : ℕ) → k ≡ x.at → (In k gone → ⊥) → R (ρ k) (σ k)
      at_x k same g = subst⁻¹ (λ z. R (ρ z) (σ z)) same (here (subst (λ z. In z gone → ⊥) same g))
