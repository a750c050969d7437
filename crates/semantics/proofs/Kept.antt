-- The instructions of a body that stay, before and behind the place of the new ones, are in order. Assumes nothing.
use Rattle.std.proofs.Common.{◌≡◌, ℕ, Bool, true, false, cond, not, T, eqb, ◌⊎◌, List, [], ◌∷◌, ◌++◌, sym, refl, ap, ◌∙◌, subst, inl, inr, ⊎_elim, eqb→eq}
use mathlib.Core.Path.{subst⁻¹}
use Rattle.domain.specs.Model.{Model}
use Rattle.semantics.specs.Programs.{Placed, reads, has, records, Readable, Ordered}
use Rattle.semantics.specs.Rules.{any_reads, Stands, spliced}
use Rattle.semantics.proofs.Members.{same_eqb, other_test, In, in_here, in_there, in_cases, out, Each, each_head, each_tail}
use Rattle.semantics.proofs.Operands.{all_untouched}
use Rattle.semantics.proofs.Order.{next_apart, before}

-- the records at hand after a body
abbrev pub after : List ℕ → List Placed → List ℕ
after e [] = e
after e (x ∷ xs) = after (x.at ∷ e) xs

pub after_old : (e : List ℕ) (xs : List Placed) (k : ℕ) → In k e → In k (after e xs)
after_old e [] k h = h
after_old e (x ∷ xs) k h = after_old (x.at ∷ e) xs k (in_there k x.at e h)

pub after_new : (e : List ℕ) (xs : List Placed) (k : ℕ) → In k (records xs) → In k (after e xs)
after_new e [] k h = absurd h
after_new e (x ∷ xs) k h = ⊎_elim (λ same. after_old (x.at ∷ e) xs k (in_here k x.at e same)) (after_new (x.at ∷ e) xs k) (in_cases k x.at (records xs) h)

pub after_cases : (e : List ℕ) (xs : List Placed) (k : ℕ) → In k (after e xs) → In k e ⊎ In k (records xs)
after_cases e [] k h = inl h
after_cases e (x ∷ xs) k h =
    ⊎_elim
    (λ old. ⊎_elim (λ same. inr (in_here k x.at (records xs) same)) inl (in_cases k x.at e old))
    (λ new. inr (in_there k x.at (records xs) new))
    (after_cases (x.at ∷ e) xs k h)

pub ordered_append : (m : Model) (n : ℕ) (e : List ℕ) (xs ys : List Placed) → Ordered m n e xs → Ordered m n (after e xs) ys → Ordered m n e (xs ++ ys)
ordered_append m n e [] ys o q = q
ordered_append m n e (x ∷ xs) ys o q = (o.0, o.1, o.2, o.3, ordered_append m n (x.at ∷ e) xs ys o.4 q)

-- the instructions behind the one in record `at`
abbrev pub behind : ℕ → List Placed → List Placed
behind at [] = []
behind at (x ∷ xs) = cond (eqb x.at at) xs (behind at xs)

pub stands_behind : (at : ℕ) (xs : List Placed) → Each (behind at xs) (λ r i. Stands xs r i)
stands_behind at [] r i s = s
stands_behind at (x ∷ xs) r i s = go (eqb x.at at) (stands_behind at xs r i) s
  where
    go : (b : Bool) → (Stands (behind at xs) r i → Stands xs r i) → Stands (cond b xs (behind at xs)) r i → Stands (x ∷ xs) r i
    go true rest s = inr s
    go false rest s = inr (rest s)

pub ordered_behind : (m : Model) (n : ℕ) (e : List ℕ) (at : ℕ) (xs : List Placed) → Ordered m n e xs → In at (records xs) → Ordered m n (at ∷ after e (before at xs)) (behind at xs)
ordered_behind m n e at [] o there = absurd there
ordered_behind m n e at (x ∷ xs) o there = go (eqb x.at at) (eqb→eq x.at at) (same_eqb x.at at) (ordered_behind m n (x.at ∷ e) at xs o.4) (in_cases at x.at (records xs) there)
  where
    go : (b : Bool) → (T b → x.at ≡ at) → (x.at ≡ at → T b) → (In at (records xs) → Ordered m n (at ∷ after (x.at ∷ e) (before at xs)) (behind at xs)) → (at ≡ x.at) ⊎ In at (records xs) →
        Ordered m n (at ∷ after e (cond b [] (x ∷ before at xs))) (cond b xs (behind at xs))
    go true is stop rest h = subst (λ z. Ordered m n (z ∷ e) xs) (is tt) o.4
    go false is stop rest (inl same) = absurd (stop (sym same))
    go false is stop rest (inr h) = rest h

module _ (gone : List ℕ) (at : ℕ) where
  -- what stays of a body, with nothing new
  abbrev pub staying : List Placed → List Placed
  staying xs = spliced gone at [] xs

  -- where no instruction stands in the place, nothing new comes in
  spliced_none : (new xs : List Placed) → Each xs (λ r i. r ≡ at → ⊥) → spliced gone at new xs ≡ staying xs
  spliced_none new [] other = refl
  spliced_none new (x ∷ xs) other =
      let rest = spliced_none new xs (each_tail x xs other) in
      let no_place = other_test (each_head x xs other) in
      subst⁻¹ (λ b. cond b (new ++ spliced gone at new xs) (cond (has x.at gone) (spliced gone at new xs) (x ∷ spliced gone at new xs)) ≡ cond b ([] ++ staying xs) (cond (has x.at gone) (staying xs) (x ∷ staying xs))) no_place
      (ap (λ l. cond (has x.at gone) l (x ∷ l)) rest)

  -- where all go, nothing stays
  pub staying_none : (xs : List Placed) → Each xs (λ r i. In r gone ⊎ (r ≡ at)) → staying xs ≡ []
  staying_none [] all = refl
  staying_none (x ∷ xs) all = go (eqb x.at at) (has x.at gone) (λ t. t) (same_eqb x.at at) (each_head x xs all) ∙ staying_none xs (each_tail x xs all)
    where
      go : (b c : Bool) → (In x.at gone → T c) → (x.at ≡ at → T b) → In x.at gone ⊎ (x.at ≡ at) → cond b (staying xs) (cond c (staying xs) (x ∷ staying xs)) ≡ staying xs
      go true c goes is h = refl
      go false true goes is h = refl
      go false false goes is h = absurd (⊎_elim goes is h)

  -- the new body: what stays before, the new ones, what stays behind
  pub spliced_parts : (m : Model) (n : ℕ) (new : List Placed) (e : List ℕ) (xs : List Placed) → Ordered m n e xs → In at (records xs) → spliced gone at new xs ≡ staying (before at xs) ++ (new ++ staying (behind at xs))
  spliced_parts m n new e [] o there = absurd there
  spliced_parts m n new e (x ∷ xs) o there = go (eqb x.at at) refl (spliced_parts m n new (x.at ∷ e) xs o.4) (in_cases at x.at (records xs) there)
    where
      go : (b : Bool) → eqb x.at at ≡ b → (In at (records xs) → spliced gone at new xs ≡ staying (before at xs) ++ (new ++ staying (behind at xs))) → (at ≡ x.at) ⊎ In at (records xs) →
          cond b (new ++ spliced gone at new xs) (cond (has x.at gone) (spliced gone at new xs) (x ∷ spliced gone at new xs)) ≡ staying (cond b [] (x ∷ before at xs)) ++ (new ++ staying (cond b xs (behind at xs)))
      go true is rest h = ap (λ l. new ++ l) (spliced_none new xs (λ r i s same. next_apart m n e x xs o r i s (same ∙ sym (eqb→eq x.at at (subst⁻¹ T is tt)))))
      go false is rest (inl same) = absurd (subst T is (same_eqb x.at at (sym same)))
      go false is rest (inr h) =
          subst⁻¹ (λ b. cond (has x.at gone) (spliced gone at new xs) (x ∷ spliced gone at new xs) ≡ cond b (staying (before at xs)) (cond (has x.at gone) (staying (before at xs)) (x ∷ staying (before at xs))) ++ (new ++ staying (behind at xs))) is
          (either_way (has x.at gone) (rest h))
        where
          either_way : (c : Bool) → spliced gone at new xs ≡ staying (before at xs) ++ (new ++ staying (behind at xs)) →
              cond c (spliced gone at new xs) (x ∷ spliced gone at new xs) ≡ cond c (staying (before at xs)) (x ∷ staying (before at xs)) ++ (new ++ staying (behind at xs))
          either_way true e = e
          either_way false e = ap (λ l. x ∷ l) e

  -- what stays is in order where it was, if the records at hand are those that stay and others
  pub staying_ordered : (m : Model) (n : ℕ) (d e : List ℕ) (xs : List Placed) → Ordered m n d xs → ((k : ℕ) → In k d → (In k gone → ⊥) → In k e) →
      Each xs (λ r i. r ≡ at → ⊥) → Each xs (λ r i. (In r gone → ⊥) → In r e → ⊥) → Each xs (λ r i. (In r gone → ⊥) → T (not (any_reads gone (reads i)))) → Ordered m n e (staying xs)
  staying_ordered m n d e [] o keep other apart unread = tt
  staying_ordered m n d e (x ∷ xs) o keep other apart unread =
      subst⁻¹ (λ b. Ordered m n e (cond b (staying xs) (cond (has x.at gone) (staying xs) (x ∷ staying xs)))) (other_test (each_head x xs other))
      (go (has x.at gone) (λ t. t) (λ t. t) (λ e keep apart. staying_ordered m n (x.at ∷ d) e xs o.4 keep (each_tail x xs other) apart (each_tail x xs unread)))
    where
      go : (c : Bool) → (T c → In x.at gone) → (In x.at gone → T c) →
          ((e : List ℕ) → ((k : ℕ) → In k (x.at ∷ d) → (In k gone → ⊥) → In k e) → Each xs (λ r i. (In r gone → ⊥) → In r e → ⊥) → Ordered m n e (staying xs)) →
          Ordered m n e (cond c (staying xs) (x ∷ staying xs))
      go true goes stays rest =
          rest e
          (λ k h g. ⊎_elim (λ same. absurd (g (subst⁻¹ (λ z. In z gone) same (goes tt)))) (λ old. keep k old g) (in_cases k x.at d h))
          (each_tail x xs apart)
      go false goes stays rest = (
        o.0,
        o.1,
        out x.at e (each_head x xs apart stays),
        all_untouched m n d gone (Readable m n e) (λ k l. l) keep (λ c t. t) (reads x.what) (each_head x xs unread stays) o.3,
        rest (x.at ∷ e)
            (λ k h g. ⊎_elim (in_here k x.at e) (λ old. in_there k x.at e (keep k old g)) (in_cases k x.at d h))
            (λ r i s g h. ⊎_elim (next_apart m n d x xs o r i s) (apart r i (inr s) g) (in_cases r x.at e h)),
      )
