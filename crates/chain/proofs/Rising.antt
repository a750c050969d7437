-- Records chained in rising order. Assumes nothing.
use Rattle.std.proofs.Common.{◌≡◌, ℕ, zero, suc, ◌+◌, ◌-◌, ◌<◌, ◌≤◌, List, [], ◌∷◌, map, length, refl, arith}
use Rattle.std.specs.List.{range_with_len}
use Rattle.chain.specs.Chains.{Chained, Apart, Clear, OthersStay, OnlyLinks}
use Rattle.chain.proofs.OnlyLinks.{none, and_then}

apart_above : (k low n : ℕ) → k < low → Apart k (range_with_len low n)
apart_above k low zero h = tt
apart_above k low (suc n) h = ((λ e. omega arith), apart_above k (low + 1) n (omega arith))

apart_below : (x j m : ℕ) → j + m ≤ x → Apart x (range_with_len j m)
apart_below x j zero h = tt
apart_below x j (suc m) h = ((λ e. omega arith), apart_below x (j + 1) m (omega arith))

-- rising numbers share none with those above, and none with those below
pub clear_above : (j m k n : ℕ) → j + m ≤ k → Clear (range_with_len j m) (range_with_len k n)
clear_above j zero k n h = tt
clear_above j (suc m) k n h = (apart_above j k n (omega arith), clear_above (j + 1) m k n (omega arith))

pub clear_below : (k n j m : ℕ) → j + m ≤ k → Clear (range_with_len k n) (range_with_len j m)
clear_below k zero j m h = tt
clear_below k (suc n) j m h = (apart_below k j m h, clear_below (k + 1) n j m (omega arith))

-- a loop down from `high` has chained the records above `at`, and changed nothing but links
pub record Risen {R : Type 0} (s : R → ℕ) (u : R → ℕ → R) (before after : List R) (high first at : ℕ) : Type 0 where
  pub chain : Chained (map s after) first (range_with_len (at + 1) (high - at))
  pub others : OthersStay (map s before) (map s after) (range_with_len (at + 1) (high - at))
  pub rest : OnlyLinks s u before after

module _ {R : Type 0} (s : R → ℕ) (u : R → ℕ → R) (reads : (r : R) (n : ℕ) → s (u r n) ≡ n) (again : (r : R) (m n : ℕ) → u (u r m) n ≡ u r n) (same : (r : R) → u r (s r) ≡ r) where
  pub unrisen : (rs : List R) (high : ℕ) → Risen s u rs rs high 0 high
  unrisen rs high =
      let z : high - high ≡ 0 = omega arith in
      record { chain = rw z refl; others = λ first ks a c. c; rest = none s u reads again same rs }

  pub rises : (before rs after : List R) (high first at : ℕ) → 1 ≤ at → at ≤ high → length before ≡ length after → Risen s u before rs high first at →
      ((ks : List ℕ) → Apart at ks → Chained (map s rs) first ks → Chained (map s after) at (at ∷ ks)) → OthersStay (map s rs) (map s after) (at ∷ []) → OnlyLinks s u rs after → Risen s u before after high at (at - 1)
  rises before rs after high first at low h long r pushes stays rest =
      let a : at - 1 + 1 ≡ at = omega arith in
      let b : high - (at - 1) ≡ suc (high - at) = omega arith in
      record {
        chain = rw (a, b) (pushes _ (apart_above at (at + 1) (high - at) (omega arith)) r.chain);
        others = rw (a, b) (λ f ks c d. stays f ks (c.0, tt) (r.others f ks c.1 d));
        rest = and_then s u reads again same before rs after long r.rest rest;
      }
