-- Unions and tests over the numbers below a bound.
use Rattle.std.specs.Prelude.{◌≡◌, ℕ, zero, suc, ◌+◌, ◌<◌, Bool, true, false, [], ◌∷◌, bit_and, bit_or, map, refl}
use Rattle.std.specs.List.{fold, range_with_len}
use Rattle.std.proofs.Common.{sym, ap, ap₂, ◌∙◌, ⊎_elim, not-suc-le-zero, add-one, zero-add, arith}
use Rattle.std.proofs.lemmas.Bool.{cases_eq, cases_Bool, cond-true, false≢true}
use Rattle.std.proofs.lemmas.List.Folds.{list_any_at, Any-from_list_any}
use Rattle.std.proofs.lemmas.List.FromFn.{length-range_with_len, get_or-range_with_len, map-range_with_len_more}
use Rattle.std.proofs.lemmas.List.Sums.{fold-append}
use Rattle.domain.specs.Model.{Model, Within}
use Rattle.layers.specs.Layers.{union, any, is_poison, some_of}
use Rattle.domain.proofs.Sets.{within_left, within_right, within_both, within_trans, and_or}

-- the union of no set, and of one more
pub union_none : (f : ℕ → ℕ) → union 0 f ≡ 0
unfolding union
union_none f = refl

union_suc : (n : ℕ) (f : ℕ → ℕ) → union (suc n) f ≡ bit_or (union n f) (f n)
unfolding union
union_suc n f =
    ap (fold bit_or 0) (rw add-one at (map-range_with_len_more f 0 n n (zero-add n))) ∙ fold-append bit_or 0 (map f (range_with_len 0 n)) (f n ∷ [])

pub union_more : (n : ℕ) (f : ℕ → ℕ) → union (n + 1) f ≡ bit_or (union n f) (f n)
union_more n f = rw add-one (union_suc n f)

-- each set lies within the union
pub union_at : (n : ℕ) (f : ℕ → ℕ) (k : ℕ) → k < n → Within (f k) (union n f)
union_at zero f k h = absurd (not-suc-le-zero h)
union_at (suc n) f k h =
    rw (union_suc n f)
    (⊎_elim (λ e. rw e (within_right (union n f) (f n))) (λ e. within_trans (f k) (union n f) _ (union_at n f k (omega arith)) (within_left (union n f) (f n))) (cases_eq k n))

-- what the empty set has, and each set, and with two sets their union, the union has
pub union_keeps : (P : ℕ → Type 0) → P 0 → ((x y : ℕ) → P x → P y → P (bit_or x y)) → (n : ℕ) (f : ℕ → ℕ) → ((k : ℕ) → k < n → P (f k)) → P (union n f)
unfolding union
union_keeps P none both zero f h = none
union_keeps P none both (suc n) f h = rw (union_suc n f) (both (union n f) (f n) (union_keeps P none both n f (λ k p. h k (omega arith))) (h n (omega arith)))

-- and the union is the least such set
pub union_least : (n : ℕ) (f : ℕ → ℕ) (s : ℕ) → ((k : ℕ) → k < n → Within (f k) s) → Within (union n f) s
union_least n f s = union_keeps (λ u. Within u s) refl (λ x y. within_both x y s) n f

-- what misses each set misses the union
pub union_misses : (n : ℕ) (f : ℕ → ℕ) (marks : ℕ) → ((k : ℕ) → k < n → bit_and (f k) marks ≡ 0) → bit_and (union n f) marks ≡ 0
union_misses n f marks = union_keeps (λ u. bit_and u marks ≡ 0) refl (λ x y p q. and_or x y marks ∙ ap₂ bit_or p q) n f

pub union_empty : (n : ℕ) (f : ℕ → ℕ) → ((k : ℕ) → k < n → f k ≡ 0) → union n f ≡ 0
union_empty = union_keeps (λ u. u ≡ 0) refl (λ x y p q. ap₂ bit_or p q)

pub any_none : (f : ℕ → Bool) → any 0 f ≡ false
unfolding any
any_none f = refl

pub any_at : (n : ℕ) (f : ℕ → Bool) (k : ℕ) → k < n → f k ≡ true → any n f ≡ true
unfolding any
any_at n f k h e = list_any_at f (range_with_len 0 n) k 0 (rw length-range_with_len h) (ap f (get_or-range_with_len 0 n k 0 h ∙ zero-add k) ∙ e)

pub any_found : (n : ℕ) (f : ℕ → Bool) → any n f ≡ true → (k : ℕ) × (k < n) × (f k ≡ true)
unfolding any
any_found n f e = let (k, x, h, i, t) = Any-from_list_any f (range_with_len 0 n) e in
    let b : k < n = rw length-range_with_len at h in
    (k, b, ap f (sym (zero-add k) ∙ sym (get_or-range_with_len 0 n k x b) ∙ i) ∙ t)

-- what follows from each passed test follows from some
pub any_least : (n : ℕ) (f : ℕ → Bool) (s : Bool) → ((k : ℕ) → k < n → f k ≡ true → s ≡ true) → any n f ≡ true → s ≡ true
any_least n f s h e = let (k, b, t) = any_found n f e in h k b t

pub any_more : (n : ℕ) (f : ℕ → Bool) → any n f ≡ false → f n ≡ false → any (n + 1) f ≡ false
any_more n f a e =
    ⊎_elim
    (λ t.
    let (k, b, p) = any_found (n + 1) f t in
    ⊎_elim (λ same. absurd (false≢true (sym e ∙ ap f (sym same) ∙ p))) (λ other. absurd (false≢true (sym a ∙ any_at n f k (omega arith) p))) (cases_eq k n))
    (λ x. x)
    (cases_Bool (any (n + 1) f))

-- for poison the tests of all codes below count
pub some_all : (m : Model) (c : ℕ) (f : ℕ → Bool) (s : Bool) → is_poison m c ≡ true → any m.size f ≡ s → s ≡ some_of m c f
some_all m c f s p e = sym e ∙ sym (cond-true (is_poison m c) (any m.size f) (f c) p)
