-- Lists of numbers without repetition: put together, taken apart, freed, and counted. Assumes nothing.
use Rattle.std.proofs.Common.{◌≡◌, ℕ, zero, suc, ◌+◌, ◌<◌, ◌≤◌, Bool, true, false, cond, T, eqb, ◌⊎◌, List, [], ◌∷◌, ◌++◌, length, take, drop, sym, ◌∙◌, subst, inl, inr, ⊎_elim, arith, eqb→eq, take-append-drop}
use mathlib.Core.Path.{subst⁻¹}
use Rattle.semantics.specs.Programs.{without}
use Rattle.semantics.specs.Rules.{Distinct, front}
use Rattle.semantics.specs.Cases.{from}
use Rattle.semantics.specs.Changes.{freed}
use Rattle.semantics.proofs.Members.{same_eqb, same?, In, in_here, in_first, in_there, in_cases, not_in, out, front_in}

-- two lists put together
pub in_left : (k : ℕ) (xs ys : List ℕ) → In k xs → In k (xs ++ ys)
in_left k [] ys h = absurd h
in_left k (x ∷ xs) ys h = ⊎_elim (in_here k x (xs ++ ys)) (λ t. in_there k x (xs ++ ys) (in_left k xs ys t)) (in_cases k x xs h)

-- a number of the second
pub in_right : (k : ℕ) (xs ys : List ℕ) → In k ys → In k (xs ++ ys)
in_right k [] ys h = h
in_right k (x ∷ xs) ys h = in_there k x (xs ++ ys) (in_right k xs ys h)

-- a number of one of them
pub in_either : (k : ℕ) (xs ys : List ℕ) → In k (xs ++ ys) → In k xs ⊎ In k ys
in_either k [] ys h = inr h
in_either k (x ∷ xs) ys h = ⊎_elim (λ e. inl (in_here k x xs e)) (λ t. ⊎_elim (λ a. inl (in_there k x xs a)) inr (in_either k xs ys t)) (in_cases k x (xs ++ ys) h)

-- without repetition where they share none
pub distinct_append : (xs ys : List ℕ) → Distinct xs → Distinct ys → ((k : ℕ) → In k xs → In k ys → ⊥) → Distinct (xs ++ ys)
distinct_append [] ys a b c = b
distinct_append (x ∷ xs) ys a b c = (
  out x (xs ++ ys) (λ h. ⊎_elim (not_in x xs a.0) (c x (in_first x xs)) (in_either x xs ys h)),
  distinct_append xs ys a.1 b (λ k h. c k (in_there k x xs h)),
)

-- and the other way round
pub distinct_parts : (xs ys : List ℕ) → Distinct (xs ++ ys) → Distinct xs × Distinct ys × ((k : ℕ) → In k xs → In k ys → ⊥)
distinct_parts [] ys d = (tt, d, λ k h t. h)
distinct_parts (x ∷ xs) ys d =
    let (a, b, c) = distinct_parts xs ys d.1 in (
      (out x xs (λ h. not_in x (xs ++ ys) d.0 (in_left x xs ys h)), a),
      b,
      λ k h t. ⊎_elim (λ e. not_in x (xs ++ ys) d.0 (in_right x xs ys (subst (λ z. In z ys) e t))) (λ u. c k u t) (in_cases k x xs h),
    )

-- what is taken and what is left
pub taken_apart : (n : ℕ) (xs : List ℕ) → Distinct xs → Distinct (take n xs) × Distinct (drop n xs) × ((k : ℕ) → In k (take n xs) → In k (drop n xs) → ⊥)
taken_apart n xs d = distinct_parts (take n xs) (drop n xs) (subst⁻¹ Distinct (take-append-drop n xs) d)

-- what is taken was there
pub in_taken : (n : ℕ) (xs : List ℕ) (k : ℕ) → In k (take n xs) → In k xs
in_taken n xs k h = subst (In k) (take-append-drop n xs) (in_left k (take n xs) (drop n xs) h)

-- so was what is left
pub in_dropped : (n : ℕ) (xs : List ℕ) (k : ℕ) → In k (drop n xs) → In k xs
in_dropped n xs k h = subst (In k) (take-append-drop n xs) (in_right k (take n xs) (drop n xs) h)

-- all is taken or left
pub taken_or_dropped : (n : ℕ) (xs : List ℕ) (k : ℕ) → In k xs → In k (take n xs) ⊎ In k (drop n xs)
taken_or_dropped n xs k h = in_either k (take n xs) (drop n xs) (subst⁻¹ (In k) (take-append-drop n xs) h)

-- records freed
pub in_freed : (xs ys : List ℕ) (k : ℕ) → In k xs ⊎ In k ys → In k (freed xs ys)
in_freed [] ys k (inl h) = absurd h
in_freed [] ys k (inr h) = h
in_freed (x ∷ xs) ys k (inl h) = ⊎_elim (λ e. in_freed xs (x ∷ ys) k (inr (in_here k x ys e))) (λ t. in_freed xs (x ∷ ys) k (inl t)) (in_cases k x xs h)
in_freed (x ∷ xs) ys k (inr h) = in_freed xs (x ∷ ys) k (inr (in_there k x ys h))

-- and the other way round
pub freed_in : (xs ys : List ℕ) (k : ℕ) → In k (freed xs ys) → In k xs ⊎ In k ys
freed_in [] ys k h = inr h
freed_in (x ∷ xs) ys k h =
    ⊎_elim
    (λ t. inl (in_there k x xs t))
    (λ t. ⊎_elim (λ e. inl (in_here k x xs e)) inr (in_cases k x ys t))
    (freed_in xs (x ∷ ys) k h)

-- without repetition where they share none
pub freed_distinct : (xs ys : List ℕ) → Distinct xs → Distinct ys → ((k : ℕ) → In k xs → In k ys → ⊥) → Distinct (freed xs ys)
freed_distinct [] ys a b c = b
freed_distinct (x ∷ xs) ys a b c =
    freed_distinct xs (x ∷ ys) a.1 (out x ys (c x (in_first x xs)), b)
    (λ k h t. ⊎_elim (λ e. not_in x xs a.0 (subst (λ z. In z xs) e h)) (c k (in_there k x xs h)) (in_cases k x ys t))

-- all but one
pub in_without : (s : ℕ) (xs : List ℕ) (k : ℕ) → In k xs → (k ≡ s → ⊥) → In k (without s xs)
in_without s [] k h n = absurd h
in_without s (x ∷ xs) k h n = go (eqb x s) (eqb→eq x s) (λ h. in_without s xs k h n) (in_cases k x xs h)
  where
    go : (b : Bool) → (T b → x ≡ s) → (In k xs → In k (without s xs)) → (k ≡ x) ⊎ In k xs → In k (cond b (without s xs) (x ∷ without s xs))
    go true is rest (inl e) = absurd (n (e ∙ is tt))
    go true is rest (inr h) = rest h
    go false is rest (inl e) = in_here k x (without s xs) e
    go false is rest (inr h) = in_there k x (without s xs) (rest h)

-- and the other way round
pub without_in : (s : ℕ) (xs : List ℕ) (k : ℕ) → In k (without s xs) → In k xs × (k ≡ s → ⊥)
without_in s [] k h = absurd h
without_in s (x ∷ xs) k h = go (eqb x s) (same_eqb x s) (without_in s xs k) h
  where
    go : (b : Bool) → (x ≡ s → T b) → (In k (without s xs) → In k xs × (k ≡ s → ⊥)) → In k (cond b (without s xs) (x ∷ without s xs)) → In k (x ∷ xs) × (k ≡ s → ⊥)
    go true is rest h = let (a, n) = rest h in (in_there k x xs a, n)
    go false is rest h = ⊎_elim (λ e. (in_here k x xs e, λ same. is (sym e ∙ same))) (λ t. let (a, n) = rest t in (in_there k x xs a, n)) (in_cases k x (without s xs) h)

-- without repetition where the list is
pub without_distinct : (s : ℕ) (xs : List ℕ) → Distinct xs → Distinct (without s xs)
without_distinct s [] d = tt
without_distinct s (x ∷ xs) d = go (eqb x s) (without_distinct s xs d.1)
  where
    go : (b : Bool) → Distinct (without s xs) → Distinct (cond b (without s xs) (x ∷ without s xs))
    go true rest = rest
    go false rest = (out x (without s xs) (λ h. not_in x xs d.0 (without_in s xs x h).0), rest)

-- all but the last
pub front_distinct : (xs : List ℕ) → Distinct xs → Distinct (front xs)
front_distinct [] d = tt
front_distinct (x ∷ []) d = tt
front_distinct (x ∷ y ∷ xs) d = (out x (front (y ∷ xs)) (λ h. not_in x (y ∷ xs) d.0 (front_in (y ∷ xs) x h)), front_distinct (y ∷ xs) d.1)

-- numbers one after the other
pub from_in : (k n j : ℕ) → In j (from k n) → (k ≤ j) × (j < k + n)
from_in k zero j h = absurd h
from_in k (suc n) j h = ⊎_elim (λ same. (omega arith, omega arith)) (λ t. let b = from_in (suc k) n j t in (omega arith, omega arith)) (in_cases j k (from (suc k) n) h)

-- and the other way round
pub in_from : (k n j : ℕ) → k ≤ j → j < k + n → In j (from k n)
in_from k zero j low high = absurd (omega arith)
in_from k (suc n) j low high = ⊎_elim (in_here j k (from (suc k) n)) (λ other. in_there j k (from (suc k) n) (in_from (suc k) n j (omega arith) (omega arith))) (same? j k)

-- without repetition
pub from_distinct : (k n : ℕ) → Distinct (from k n)
from_distinct k zero = tt
from_distinct k (suc n) = (out k (from (suc k) n) (λ h. let b = from_in (suc k) n k h in omega arith), from_distinct (suc k) n)

-- a list with one fewer
length_without : (s : ℕ) (xs : List ℕ) → In s xs → suc (length (without s xs)) ≤ length xs
length_without s [] h = absurd h
length_without s (x ∷ xs) h = go (eqb x s) (same_eqb x s) (length_without s xs) (at_most xs) (in_cases s x xs h)
  where
    at_most : (ys : List ℕ) → length (without s ys) ≤ length ys
    at_most [] = omega arith
    at_most (y ∷ ys) = step (eqb y s) (at_most ys)
      where
        step : (b : Bool) → length (without s ys) ≤ length ys → length (cond b (without s ys) (y ∷ without s ys)) ≤ suc (length ys)
        step true l = omega arith
        step false l = omega arith

    go : (b : Bool) → (x ≡ s → T b) → (In s xs → suc (length (without s xs)) ≤ length xs) → length (without s xs) ≤ length xs → (s ≡ x) ⊎ In s xs → suc (length (cond b (without s xs) (x ∷ without s xs))) ≤ suc (length xs)
    go true is rest most h = omega arith
    go false is rest most (inl e) = absurd (is (sym e))
    go false is rest most (inr h) = let l = rest h in omega arith

-- a list without repetition is no longer than one that has all of it
pub no_longer : (xs ys : List ℕ) → Distinct xs → ((k : ℕ) → In k xs → In k ys) → length xs ≤ length ys
no_longer [] ys d h = omega arith
no_longer (x ∷ xs) ys d h =
    let rest = no_longer xs (without x ys) d.1 (λ k t. in_without x ys k (h k (in_there k x xs t)) (λ e. not_in x xs d.0 (subst (λ z. In z xs) e t))) in
    let less = length_without x ys (h x (in_first x xs)) in
    omega arith
