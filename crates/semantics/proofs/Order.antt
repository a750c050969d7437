-- What stands before an instruction, and that an instruction reads only that. Assumes nothing.
use Rattle.std.proofs.Common.{◌≡◌, ℕ, Bool, true, false, cond, T, eqb, ◌⊎◌, List, [], ◌∷◌, sym, ap, ◌∙◌, subst, inl, inr, ⊎_elim}
use mathlib.Core.Path.{subst⁻¹}
use Rattle.domain.specs.Model.{Model}
use Rattle.semantics.specs.Programs.{Placed, reads, records, Readable, All, Ordered}
use Rattle.semantics.specs.Rules.{Stands}
use Rattle.semantics.proofs.Members.{same_eqb, other_test, In, in_here, in_first, in_there, in_cases, unlike, Each, stands_in, in_stands, all_weaker}
use Rattle.semantics.proofs.Operands.{readable_more}

-- an instruction stands in a record that none before it has
pub later_apart : (m : Model) (n : ℕ) (e : List ℕ) (xs : List Placed) → Ordered m n e xs → (k : ℕ) → In k e → Each xs (λ r i. r ≡ k → ⊥)
later_apart m n e [] o k h r i s = absurd s
later_apart m n e (x ∷ xs) o k h r i (inl a) = λ same. unlike x.at e o.2 k h (sym (a.0 ∙ same))
later_apart m n e (x ∷ xs) o k h r i (inr s) = later_apart m n (x.at ∷ e) xs o.4 k (in_there k x.at e h) r i s

pub next_apart : (m : Model) (n : ℕ) (e : List ℕ) (x : Placed) (xs : List Placed) → Ordered m n e (x ∷ xs) → Each xs (λ r i. r ≡ x.at → ⊥)
next_apart m n e x xs o = later_apart m n (x.at ∷ e) xs o.4 x.at (in_first x.at e)

-- the instructions before the one in record `at`
abbrev pub before : ℕ → List Placed → List Placed
before at [] = []
before at (x ∷ xs) = cond (eqb x.at at) [] (x ∷ before at xs)

pub ordered_before : (m : Model) (n : ℕ) (e : List ℕ) (at : ℕ) (xs : List Placed) → Ordered m n e xs → Ordered m n e (before at xs)
ordered_before m n e at [] o = tt
ordered_before m n e at (x ∷ xs) o =
    let rest = ordered_before m n (x.at ∷ e) at xs o.4 in
    elim (eqb x.at at) as (λ b. Ordered m n e (cond b [] (x ∷ before at xs))) [ true ↦ tt | false ↦ (o.0, o.1, o.2, o.3, rest) ]

-- what stands before `at` is an instruction of the body, in another record
pub stands_before : (at : ℕ) (xs : List Placed) → Each (before at xs) (λ r i. Stands xs r i × (r ≡ at → ⊥))
stands_before at [] r i s = absurd s
stands_before at (x ∷ xs) r i s = go (eqb x.at at) (same_eqb x.at at) (stands_before at xs r i) s
  where
    go : (b : Bool) → (x.at ≡ at → T b) → (Stands (before at xs) r i → Stands xs r i × (r ≡ at → ⊥)) → Stands (cond b [] (x ∷ before at xs)) r i → Stands (x ∷ xs) r i × (r ≡ at → ⊥)
    go true stop rest s = absurd s
    go false stop rest (inl e) = (inl e, λ same. stop (e.0 ∙ same))
    go false stop rest (inr s) = let t = rest s in (inr t.0, t.1)

pub in_before : (at : ℕ) (xs : List Placed) (k : ℕ) → In k (records (before at xs)) → In k (records xs)
in_before at xs k h = let (i, s) = in_stands (before at xs) k h in stands_in xs k i (stands_before at xs k i s).0

pub before_trans : (xs : List Placed) (at r q : ℕ) → In r (records (before at xs)) → In q (records (before r xs)) → In q (records (before at xs))
before_trans [] at r q h k = absurd h
before_trans (x ∷ xs) at r q h k = go (eqb x.at at) (eqb x.at r) (same_eqb x.at r) (before_trans xs at r q) h k
  where
    go : (b c : Bool) → (x.at ≡ r → T c) → (In r (records (before at xs)) → In q (records (before r xs)) → In q (records (before at xs))) →
        In r (records (cond b [] (x ∷ before at xs))) → In q (records (cond c [] (x ∷ before r xs))) → In q (records (cond b [] (x ∷ before at xs)))
    go true c stop rest h k = absurd h
    go false true stop rest h k = absurd k
    go false false stop rest h k =
        ⊎_elim
        (λ same. in_here q x.at _ same)
        (λ k. in_there q x.at _ (⊎_elim (λ same. absurd (stop (sym same))) (λ h. rest h k) (in_cases r x.at _ h)))
        (in_cases q x.at _ k)

reads_within : (m : Model) (n : ℕ) (e : List ℕ) (xs : List Placed) → Ordered m n e xs → Each xs (λ r i. (d : List ℕ) × All (Readable m n d) (reads i) × ((q : ℕ) → In q d → In q e ⊎ In q (records (before r xs))))
reads_within m n e [] o r i s = absurd s
reads_within m n e (x ∷ xs) o r i (inl a) = (e, subst (λ z. All (Readable m n e) (reads z)) a.1 o.3, λ q h. inl h)
reads_within m n e (x ∷ xs) o r i (inr s) =
    let (d, all, within) = reads_within m n (x.at ∷ e) xs o.4 r i s in
    let on : before r (x ∷ xs) ≡ x ∷ before r xs = ap (λ b. cond b [] (x ∷ before r xs)) (other_test (λ same. next_apart m n e x xs o r i s (sym same))) in (
      d,
      all,
      λ q h.
          ⊎_elim
          (λ old. ⊎_elim (λ same. inr (subst⁻¹ (λ l. In q (records l)) on (in_here q x.at _ same))) inl (in_cases q x.at e old))
          (λ new. inr (subst⁻¹ (λ l. In q (records l)) on (in_there q x.at _ new)))
          (within q h),
    )

-- an instruction of a body reads inputs, constants and what stands before it
pub reads_before : (m : Model) (n : ℕ) (xs : List Placed) → Ordered m n [] xs → Each xs (λ r i. All (Readable m n (records (before r xs))) (reads i))
reads_before m n xs o r i s =
    let (d, all, within) = reads_within m n [] xs o r i s in
    all_weaker (Readable m n d) _ (readable_more m n d _ (λ q h. ⊎_elim (λ none. absurd none) (λ k. k) (within q h))) (reads i) all
