-- What an operand of the poison layer stands for, and what is united or tested over that.
use Rattle.std.specs.Prelude.{◌≡◌, ℕ, ◌<◌, ◌≤◌, Bool, true, false, bit_and, bit_or, refl}
use Rattle.std.proofs.Common.{ap, ap₂, ◌∙◌, inl, inr, ⊎_elim, rules, tests}
use Rattle.std.proofs.lemmas.Bool.{cases_Bool, cond_both, eqb-true, eqb-false}
use Rattle.domain.specs.Model.{Model, Within}
use Rattle.layers.specs.Layers.{union, is_poison, is_trap, union_of, some_of, poison_broken, Stands, StandsForAll}
use Rattle.domain.proofs.Sets.{misses, within_self, and_or}
use Rattle.layers.specs.Unions.{union_at, union_keeps, any_at, any_found}

module _ (m : Model) where
  -- an operand is poison and stands for the codes below, or it stands for itself
  pub poison_stands : (c x : ℕ) → is_poison m c ≡ true → x < m.size → Stands m c x
  poison_stands c x e h = inl (eqb-true c m.size e, h)

  pub self_stands : (c : ℕ) → is_poison m c ≡ false → Stands m c c
  self_stands c e = inr (eqb-false c m.size e, refl)

  -- each operand stands for something
  stands_for_some : 2 ≤ m.size → (c : ℕ) → (x : ℕ) × Stands m c x
  stands_for_some n c = ⊎_elim (λ e. (0, search (rules, tests))) (λ e. (c, search (rules, tests))) (cases_Bool (is_poison m c))

  -- a test that passes for one of the codes passes for some
  pub some_at : (c x : ℕ) (f : ℕ → Bool) → Stands m c x → f x ≡ true → some_of m c f ≡ true
  some_at c x f s e = ⊎_elim (λ p. let k = any_at m.size f x p.1 e in search (rules, tests)) (λ p. search (rules, tests)) s

  pub some_found : (c : ℕ) (f : ℕ → Bool) → some_of m c f ≡ true → (x : ℕ) × Stands m c x × (f x ≡ true)
  some_found c f e =
      ⊎_elim (λ p. let (x, h, t) = any_found m.size f (search (rules, tests)) in (x, poison_stands c x p h, t))
      (λ p. (c, self_stands c p, search (rules, tests))) (cases_Bool (is_poison m c))

  pub some_each : 2 ≤ m.size → (c : ℕ) (f : ℕ → Bool) → ((x : ℕ) → Stands m c x → f x ≡ true) → some_of m c f ≡ true
  some_each n c f h = let (x, s) = stands_for_some n c in some_at c x f s (h x s)

  -- a set that one of them has lies within the union
  pub union_has : (c x : ℕ) (f : ℕ → ℕ) → Stands m c x → Within (f x) (union_of m c f)
  union_has c x f s = ⊎_elim (λ p. let k = union_at m.size f x p.1 in search (rules, tests)) (λ p. let k = within_self (f x) in search (rules, tests)) s

  -- what the empty set has, and each of the sets, and with two sets their union, the union has
  pub union_keeps_of : (P : ℕ → Type 0) → P 0 → ((x y : ℕ) → P x → P y → P (bit_or x y)) → (c : ℕ) (f : ℕ → ℕ) → ((x : ℕ) → Stands m c x → P (f x)) → P (union_of m c f)
  union_keeps_of P none both c f h =
      cond_both (is_poison m c) (union m.size f) (f c) P
      (λ e. union_keeps P none both m.size f (λ x k. h x (poison_stands c x e k))) (λ e. h c (self_stands c e))

  union_missed : (c marks : ℕ) (f : ℕ → ℕ) → ((x : ℕ) → Stands m c x → bit_and (f x) marks ≡ 0) → bit_and (union_of m c f) marks ≡ 0
  union_missed c marks f = union_keeps_of (λ u. bit_and u marks ≡ 0) refl (λ x y p q. and_or x y marks ∙ ap₂ bit_or p q) c f

  pub union_each : (c : ℕ) (f : ℕ → ℕ) → ((x : ℕ) → Stands m c x → f x ≡ 0) → union_of m c f ≡ 0
  union_each c f = union_keeps_of (λ u. u ≡ 0) refl (λ x y p q. ap₂ bit_or p q) c f

  pub stands_for_all : StandsForAll m
  stands_for_all = record {
    unbroken = λ op a b marks e x y s t.
        misses (m.broken op x y) (union_of m b (m.broken op x)) marks (union_has b y (m.broken op x) t)
        (misses (union_of m b (m.broken op x)) (poison_broken m op a b) marks (union_has a x (λ z. union_of m b (m.broken op z)) s) e);
    all_unbroken = λ op a b marks h. union_missed a marks _ (λ x s. union_missed b marks (m.broken op x) (λ y t. h x y s t));
    trap_of_some = λ op marks a b e.
        let (x, s, f) = some_found a (λ z. some_of m b (λ y. is_trap (m.compute op marks z y))) e in
        let (y, t, g) = some_found b (λ z. is_trap (m.compute op marks x z)) f in
        (x, y, s, t, search (rules, tests));
    some_trap = λ op marks a b x y s t e. some_at a x _ s (some_at b y (λ z. is_trap (m.compute op marks x z)) t (ap is_trap e));
  }
