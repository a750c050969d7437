-- A chain has no more records than there are. Assumes nothing.
use Rattle.std.proofs.Common.{ℕ, zero, suc, ◌≤◌, eqb, List, [], ◌∷◌, length, ap, subst, arith}
use Rattle.std.proofs.lemmas.Bool.{cond_both, eqb-true, eqb-false}
use Rattle.chain.specs.Chains.{Apart, Chained, link}
use Rattle.chain.specs.Places.{without}
use Rattle.chain.proofs.Places.{without_none, apart_without}

-- numbers of 1 to n, none twice
abbrev Spread : ℕ → List ℕ → Type 0
Spread n [] = Unit {0}
Spread n (k ∷ ks) = (1 ≤ k) × (k ≤ n) × Apart k ks × Spread n ks

spread : (links : List ℕ) (first : ℕ) (ks : List ℕ) → Chained links first ks → Spread (length links) ks
spread links first [] c = tt
spread links first (k ∷ ks) c = (c.1, c.2, c.3, spread links (link links k) ks c.4)

-- without the greatest they are numbers of 1 to one less, and one fewer at most
lower : (n : ℕ) (ks : List ℕ) → Spread (suc n) ks → Spread n (without (suc n) ks)
lower n [] s = tt
lower n (k ∷ ks) s =
    cond_both (eqb k (suc n)) (without (suc n) ks) (k ∷ without (suc n) ks) (Spread n)
    (λ _. lower n ks s.3)
    (λ e. let other = eqb-false k (suc n) e in (s.0, omega (arith, s.1), apart_without k (suc n) ks s.2, lower n ks s.3))

one_fewer : (n at : ℕ) (ks : List ℕ) → Spread n ks → length ks ≤ suc (length (without at ks))
one_fewer n at [] s = omega arith
one_fewer n at (k ∷ ks) s =
    cond_both (eqb k at) (without at ks) (k ∷ without at ks) (λ l. suc (length ks) ≤ suc (length l))
    (λ e. omega (arith, ap length (without_none at ks (subst (λ x. Apart x ks) (eqb-true k at e) s.2))))
    (λ _. omega (arith, one_fewer n at ks s.3))

spread_few : (n : ℕ) (ks : List ℕ) → Spread n ks → length ks ≤ n
spread_few zero [] s = omega arith
spread_few zero (k ∷ ks) s = absurd (omega (arith, s.0, s.1))
spread_few (suc n) ks s = omega (arith, one_fewer (suc n) (suc n) ks s, spread_few n (without (suc n) ks) (lower n ks s))

pub few : (links : List ℕ) (first : ℕ) (ks : List ℕ) → Chained links first ks → length ks ≤ length links
few links first ks c = spread_few (length links) ks (spread links first ks c)
