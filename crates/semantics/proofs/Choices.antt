-- Choices as a function from records in place of a list. Assumes nothing.
use Rattle.std.proofs.Common.{◌≡◌, ℕ, suc, Bool, true, false, cond, eqb, List, [], ◌∷◌, length, refl, ap, ◌∙◌, arith}
use Rattle.std.proofs.lemmas.Bool.{cond-true, cond-false}
use Rattle.domain.specs.Model.{Model}
use Rattle.semantics.specs.Programs.{Placed, Env, put, is_freeze, freezes, All, Ordered}
use Rattle.semantics.proofs.Members.{same_test, other_test, Each, each_head, each_tail}
use Rattle.semantics.proofs.Order.{next_apart}

pub put_same : (ρ : Env) (r v k : ℕ) → k ≡ r → put ρ r v k ≡ v
put_same ρ r v k e = cond-true (eqb k r) v (ρ k) (same_test e)

pub put_other : (ρ : Env) (r v k : ℕ) → (k ≡ r → ⊥) → put ρ r v k ≡ ρ k
put_other ρ r v k n = cond-false (eqb k r) v (ρ k) (other_test n)

pub put_keeps : (P : ℕ → Type 0) (ρ : Env) (r v : ℕ) → P v → ((k : ℕ) → P (ρ k)) → (k : ℕ) → P (put ρ r v k)
put_keeps P ρ r v p h k = elim (eqb k r) as (λ b. P (cond b v (ρ k))) [ true ↦ p | false ↦ h k ]

-- what a function of records gives to the freezes of a body, in their order
abbrev pub gather : List Placed → (ℕ → ℕ) → List ℕ
gather [] f = []
gather (x ∷ xs) f = cond (is_freeze x.what) (f x.at ∷ gather xs f) (gather xs f)

pub gather_count : (xs : List Placed) (f : ℕ → ℕ) → length (gather xs f) ≡ freezes xs
gather_count [] f = refl
gather_count (x ∷ xs) f = go (is_freeze x.what) (gather_count xs f)
  where
    go : (b : Bool) → length (gather xs f) ≡ freezes xs → length (cond b (f x.at ∷ gather xs f) (gather xs f)) ≡ cond b (suc (freezes xs)) (freezes xs)
    go true e = ap suc e
    go false e = e

pub gather_all : (P : ℕ → Type 0) (xs : List Placed) (f : ℕ → ℕ) → ((r : ℕ) → P (f r)) → All P (gather xs f)
gather_all P [] f h = tt
gather_all P (x ∷ xs) f h = go (is_freeze x.what) (gather_all P xs f h)
  where
    go : (b : Bool) → All P (gather xs f) → All P (cond b (f x.at ∷ gather xs f) (gather xs f))
    go true a = (h x.at, a)
    go false a = a

pub gather_same : (xs : List Placed) (f g : ℕ → ℕ) → Each xs (λ r i. f r ≡ g r) → gather xs f ≡ gather xs g
gather_same [] f g h = refl
gather_same (x ∷ xs) f g h =
    let here = each_head x xs h in
    let later = gather_same xs f g (each_tail x xs h) in
    λ j. cond (is_freeze x.what) (here j ∷ later j) (later j)

-- every list of choices comes from a function, all of whose values are as good as the choices
pub spread : (P : ℕ → Type 0) (d : ℕ) → P d → (m : Model) (n : ℕ) (e : List ℕ) (xs : List Placed) → Ordered m n e xs → (cs : List ℕ) → length cs ≡ freezes xs → All P cs → (f : ℕ → ℕ) × ((r : ℕ) → P (f r)) × (gather xs f ≡ cs)
spread P d p m n e [] o [] c a = (λ r. d, λ r. p, refl)
spread P d p m n e [] o (y ∷ cs) c a = absurd (omega arith)
spread P d p m n e (x ∷ xs) o cs c a = go (is_freeze x.what) (spread P d p m n (x.at ∷ e) xs o.4) cs c a
  where
    go : (b : Bool) → ((cs : List ℕ) → length cs ≡ freezes xs → All P cs → (f : ℕ → ℕ) × ((r : ℕ) → P (f r)) × (gather xs f ≡ cs)) →
        (cs : List ℕ) → length cs ≡ cond b (suc (freezes xs)) (freezes xs) → All P cs → (f : ℕ → ℕ) × ((r : ℕ) → P (f r)) × (cond b (f x.at ∷ gather xs f) (gather xs f) ≡ cs)
    go false rest cs c a = rest cs c a
    go true rest [] c a = absurd (omega arith)
    go true rest (y ∷ cs) c a =
        let (f, good, same) = rest cs (omega arith) a.1 in
        let others = gather_same xs (put f x.at y) f (λ r i s. put_other f x.at y r (next_apart m n e x xs o r i s)) in
        (put f x.at y, put_keeps P f x.at y a.0 good, λ j. put_same f x.at y x.at refl j ∷ (others ∙ same) j)
