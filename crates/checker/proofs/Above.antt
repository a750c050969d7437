-- The codes of a set above a number. Assumes nothing.
use Rattle.std.proofs.Common.{◌≡◌, ℕ, zero, suc, ◌+◌, ◌-◌, ◌<◌, ◌≤◌, Bool, true, false, cond, ltb, List, [], ◌∷◌, length, sym, refl, ap, ◌∙◌, subst, ⊎_elim, add-one, arith, Option, Some, None, ◌||◌, MatchOption}
use Rattle.std.specs.Option.{IsSome}
use Rattle.domain.proofs.Outcomes.{holds}
use Rattle.std.proofs.lemmas.Bool.{false≢true, cases_eq, cases_lt, lt-ltb, le-ltb}
use Rattle.domain.specs.Model.{Model, Lawful}
use Rattle.semantics.specs.Cases.{from, keep, codes, settled_codes, Listed}
use Rattle.semantics.proofs.Listed.{bounds_from, listed_keep}
use Rattle.checker.specs.Walks.{above, set_of, Follows}

-- the order of two tests does not matter
keep_keep : (s t : ℕ → Bool) (xs : List ℕ) → keep s (keep t xs) ≡ keep t (keep s xs)
keep_keep s t [] = refl
keep_keep s t (x ∷ xs) = go (keep_keep s t xs) (s x) (t x) refl refl
  where
    go : keep s (keep t xs) ≡ keep t (keep s xs) → (a b : Bool) → s x ≡ a → t x ≡ b → keep s (cond b (x ∷ keep t xs) (keep t xs)) ≡ keep t (cond a (x ∷ keep s xs) (keep s xs))
    go rest true true p q = ap (λ z. cond z (x ∷ keep s (keep t xs)) (keep s (keep t xs))) p ∙ ap (λ l. x ∷ l) rest ∙ sym (ap (λ z. cond z (x ∷ keep t (keep s xs)) (keep t (keep s xs))) q)
    go rest true false p q = rest ∙ sym (ap (λ z. cond z (x ∷ keep t (keep s xs)) (keep t (keep s xs))) q)
    go rest false true p q = ap (λ z. cond z (x ∷ keep s (keep t xs)) (keep s (keep t xs))) p ∙ rest
    go rest false false p q = rest

-- every number passes the test that none fails
keep_any : (xs : List ℕ) → keep (λ _. true) xs ≡ xs
keep_any [] = refl
keep_any (x ∷ xs) = ap (λ l. x ∷ l) (keep_any xs)

-- numbers that are all above c
all_above : (c k n : ℕ) → c < k → above c (from k n) ≡ from k n
all_above c k zero l = refl
all_above c k (suc n) l = ap (λ b. cond b (k ∷ above c (from (suc k) n)) (above c (from (suc k) n))) (lt-ltb c k l) ∙ ap (λ xs. k ∷ xs) (all_above c (suc k) n (omega arith))

-- numbers that begin no later than above c
above_from : (c k n : ℕ) → k ≤ suc c → above c (from k n) ≡ from (suc c) (k + n - suc c)
above_from c k zero l = let z : ◌≡◌ {A = ℕ} 0 (k + 0 - suc c) = omega arith in ap (from (suc c)) z
above_from c k (suc n) l = ⊎_elim here (there (above_from c (suc k) n)) (cases_eq k (suc c))
  where
    here : k ≡ suc c → above c (from k (suc n)) ≡ from (suc c) (k + suc n - suc c)
    here e = let z : suc n ≡ k + suc n - suc c = omega arith in all_above c k (suc n) (omega arith) ∙ (λ i. from (e i) (z i))

    there : (suc k ≤ suc c → above c (from (suc k) n) ≡ from (suc c) (suc k + n - suc c)) → (k ≡ suc c → ⊥) → above c (from k (suc n)) ≡ from (suc c) (k + suc n - suc c)
    there later ne =
        let z : suc k + n - suc c ≡ k + suc n - suc c = omega arith in
        ap (λ b. cond b (k ∷ above c (from (suc k) n)) (above c (from (suc k) n))) (le-ltb c k (omega arith)) ∙ later (omega arith) ∙ ap (from (suc c)) z

-- the numbers below n that pass a test
module _ (t : ℕ → Bool) (n : ℕ) where
  abbrev passing : List ℕ
  passing = keep t (from 0 n)

  above_passing : (c : ℕ) → above c passing ≡ keep t (from (suc c) (n - suc c))
  above_passing c = let z : 0 + n - suc c ≡ n - suc c = omega arith in keep_keep (ltb c) t (from 0 n) ∙ ap (keep t) (above_from c 0 n (omega arith) ∙ ap (from (suc c)) z)

  -- from a number on that does not pass, or is the first that does
  from_misses : (k : ℕ) → t k ≡ false → keep t (from k (n - k)) ≡ keep t (from (suc k) (n - suc k))
  from_misses k e = ⊎_elim beyond within (cases_eq (n - k) 0)
    where
      beyond : n - k ≡ 0 → keep t (from k (n - k)) ≡ keep t (from (suc k) (n - suc k))
      beyond z = let y : ◌≡◌ {A = ℕ} 0 (n - suc k) = omega arith in ap (λ j. keep t (from k j)) z ∙ ap (λ j. keep t (from (suc k) j)) y

      within : (n - k ≡ 0 → ⊥) → keep t (from k (n - k)) ≡ keep t (from (suc k) (n - suc k))
      within ne =
          let z : n - k ≡ suc (n - suc k) = omega arith in
          ap (λ j. keep t (from k j)) z ∙ ap (λ b. cond b (k ∷ keep t (from (suc k) (n - suc k))) (keep t (from (suc k) (n - suc k)))) e

  from_meets : (k : ℕ) → t k ≡ true → k < n → keep t (from k (n - k)) ≡ k ∷ above k passing
  from_meets k e l =
      let z : n - k ≡ suc (n - suc k) = omega arith in
      ap (λ j. keep t (from k j)) z ∙ ap (λ b. cond b (k ∷ keep t (from (suc k) (n - suc k))) (keep t (from (suc k) (n - suc k)))) e ∙ ap (λ xs. k ∷ xs) (sym (above_passing k))

  -- one number on, as a loop goes
  pub above_misses : (c : ℕ) → t (c + 1) ≡ false → above c passing ≡ above (c + 1) passing
  above_misses c e =
      above_passing c ∙ from_misses (suc c) (ap t (sym (add-one c)) ∙ e) ∙ sym (above_passing (suc c)) ∙ ap (λ k. above k passing) (sym (add-one c))

  pub above_meets : (c : ℕ) → t (c + 1) ≡ true → c + 1 < n → above c passing ≡ (c + 1) ∷ above (c + 1) passing
  above_meets c e l =
      above_passing c ∙ from_meets (suc c) (ap t (sym (add-one c)) ∙ e) (omega arith) ∙ ap (λ k. k ∷ above k passing) (sym (add-one c))

  pub above_none : (c : ℕ) → n ≤ c + 1 → above c passing ≡ []
  above_none c l = let z : n - suc c ≡ 0 = omega arith in above_passing c ∙ ap (λ j. keep t (from (suc c) j)) z

  -- the first that passes, where none below k does
  pub first_none : passing ≡ keep t (from 0 (n - 0))
  first_none = let z : n ≡ n - 0 = omega arith in ap (λ j. keep t (from 0 j)) z

  pub first_misses : (k : ℕ) → passing ≡ keep t (from k (n - k)) → t k ≡ false → passing ≡ keep t (from (k + 1) (n - (k + 1)))
  first_misses k h e = h ∙ from_misses k e ∙ ap (λ j. keep t (from j (n - j))) (sym (add-one k))

  pub first_meets : (k : ℕ) → passing ≡ keep t (from k (n - k)) → t k ≡ true → k < n → passing ≡ k ∷ above k passing
  first_meets k h e l = h ∙ from_meets k e l

  pub some_left : (k : ℕ) → passing ≡ keep t (from k (n - k)) → 0 < length passing → k < n
  some_left k h some = ⊎_elim (λ l. l) over (cases_lt k n)
    where
      over : n ≤ k → k < n
      over l =
          let z : n - k ≡ 0 = omega arith in
          let y : length passing ≡ 0 = ap length h ∙ ap (λ j. length (keep t (from k j))) z in
          absurd (omega arith)

  -- numbers that do not pass, up to one that does or to the end
  skips : (k : ℕ) → ((j : ℕ) → j < k → t j ≡ false) → passing ≡ keep t (from k (n - k))
  skips zero h = first_none
  skips (suc k) h = subst (λ j. passing ≡ keep t (from j (n - j))) (add-one k) (first_misses k (skips k (λ j l. h j (omega arith))) (h k (omega arith)))

  pub first_found : (k : ℕ) → k < n → t k ≡ true → ((j : ℕ) → j < k → t j ≡ false) → passing ≡ k ∷ above k passing
  first_found k l e h = first_meets k (skips k h) e l

  above_skips : (c d : ℕ) → ((j : ℕ) → c < j → j ≤ c + d → t j ≡ false) → above c passing ≡ above (c + d) passing
  above_skips c zero h = let e : c ≡ c + 0 = omega arith in ap (λ k. above k passing) e
  above_skips c (suc d) h =
      let e : c + d + 1 ≡ c + suc d = omega arith in
      above_skips c d (λ j a b. h j a (omega arith)) ∙ above_misses (c + d) (h (c + d + 1) (omega arith) (omega arith)) ∙ ap (λ k. above k passing) e

  pub next_found : (c i : ℕ) → c < i → i < n → t i ≡ true → ((j : ℕ) → c < j → j < i → t j ≡ false) → above c passing ≡ i ∷ above i passing
  next_found c i a b e h =
      let z : c + (i - (c + 1)) + 1 ≡ i = omega arith in
      above_skips c (i - (c + 1)) (λ j l m. h j l (omega arith)) ∙
      subst (λ k. above (c + (i - (c + 1))) passing ≡ k ∷ above k passing) z (above_meets (c + (i - (c + 1))) (ap t z ∙ e) (omega arith))

  pub next_none : (c : ℕ) → ((j : ℕ) → c < j → j < n → t j ≡ false) → above c passing ≡ []
  next_none c h = above_skips c (n - (c + 1)) (λ j a b. h j a (omega arith)) ∙ above_none (c + (n - (c + 1))) (omega arith)

  -- the numbers that pass from k on, counted
  pub count_misses : (k : ℕ) → t k ≡ false → length (keep t (from k (n - k))) ≡ length (keep t (from (k + 1) (n - (k + 1))))
  count_misses k e = ap length (from_misses k e ∙ ap (λ j. keep t (from j (n - j))) (sym (add-one k)))

  pub count_meets : (k : ℕ) → t k ≡ true → k < n → length (keep t (from k (n - k))) ≡ suc (length (keep t (from (k + 1) (n - (k + 1)))))
  count_meets k e l = ap length (from_meets k e l) ∙ ap (λ xs. suc (length xs)) (above_passing k ∙ ap (λ j. keep t (from j (n - j))) (sym (add-one k)))

-- all numbers below n
pub codes_more : (n c : ℕ) → c + 1 < n → above c (from 0 n) ≡ (c + 1) ∷ above (c + 1) (from 0 n)
codes_more n c l = subst (λ d. above c d ≡ (c + 1) ∷ above (c + 1) d) (keep_any (from 0 n)) (above_meets (λ _. true) n c refl l)

pub codes_over : (n c : ℕ) → n ≤ c + 1 → above c (from 0 n) ≡ []
codes_over n c l = ap (above c) (sym (keep_any (from 0 n))) ∙ above_none (λ _. true) n c l

pub codes_first : (n : ℕ) → 0 < n → from 0 n ≡ 0 ∷ above 0 (from 0 n)
codes_first n l = subst (λ d. d ≡ 0 ∷ above 0 d) (keep_any (from 0 n)) (first_meets (λ _. true) n 0 (first_none (λ _. true) n) refl l)

-- a list with an element is not empty
listed_some : (c : ℕ) (xs : List ℕ) → Listed c xs → 0 < length xs
listed_some c [] h = absurd h
listed_some c (x ∷ xs) h = omega arith

-- some code is settled
pub settled_some : (m : Model) → Lawful m → 0 < length (settled_codes m)
settled_some m law =
    let (c, t) = law.some_settled in
    let b = law.settled_code c t in
    listed_some c (settled_codes m) (listed_keep m.settled (codes m) c (bounds_from 0 m.size c (omega arith) (omega arith)) t)

-- what comes after c in a set of numbers below n, where the search goes through all numbers above c
pub follows :
    (t : ℕ → Bool) (n c start : ℕ) (r : Option ℕ) → ((j : ℕ) → c < j → j < n → start ≤ j) → ((j : ℕ) → start ≤ j → j < n → c < j) →
    MatchOption r ((j : ℕ) → start ≤ j → j < n → t j ≡ false) (λ i. (start ≤ i) × (i < n) × (t i ≡ true) × ((j : ℕ) → start ≤ j → j < i → t j ≡ false)) →
    Follows (keep t (from 0 n)) c r
follows t n c start None down up h = next_none t n c (λ j a b. h j (down j a b) b)
follows t n c start (Some i) down up h = next_found t n c i (up i h.0 h.1) h.1 h.2 (λ j a b. h.3 j (down j a (omega (arith, h.1))) b)

-- the codes of a kind are those that pass its test
pub set_passes : (m : Model) (free : Bool) → set_of m free ≡ keep (λ c. free || m.settled c) (codes m)
set_passes m true = sym (keep_any (codes m))
set_passes m false = refl

-- the first settled code, where the search goes through all codes
module _ (m : Model) (size : ℕ) (same : size ≡ m.size) where
  abbrev Search : Option ℕ → Type 0
  Search r = MatchOption r ((j : ℕ) → 0 ≤ j → j < size → m.settled j ≡ false) (λ i. (0 ≤ i) × (i < size) × (m.settled i ≡ true) × ((j : ℕ) → 0 ≤ j → j < i → m.settled j ≡ false))

  pub settled_found : Lawful m → (r : Option ℕ) → Search r → IsSome r
  settled_found law None h = let (c, t) = law.some_settled in absurd (false≢true (sym (h c (omega arith) (omega (arith, same, law.settled_code c t))) ∙ holds (m.settled c) t))
  settled_found law (Some i) h = refl

  pub settled_first : (r : Option ℕ) (i : ℕ) → r ≡ Some i → Search r → settled_codes m ≡ i ∷ above i (settled_codes m)
  settled_first r i e h = let f = subst Search e h in first_found m.settled m.size i (omega (arith, same, f.1)) f.2 (λ j l. f.3 j (omega arith) l)
