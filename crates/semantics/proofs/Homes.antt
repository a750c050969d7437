-- The records of a target's instructions in the new body. Assumes nothing.
use Rattle.std.proofs.Common.{◌≡◌, ℕ, zero, suc, ◌+◌, ◌-◌, ◌<◌, ◌≤◌, eqb, ◌⊎◌, List, [], ◌∷◌, map, length, get_or, sym, refl, ap, ◌∙◌, subst, inl, inr, ⊎_elim, arith}
use mathlib.Core.Path.{subst⁻¹}
use Rattle.std.proofs.lemmas.Bool.{cond-true, cond-false}
use Rattle.domain.specs.Model.{Model}
use Rattle.semantics.specs.Programs.{Kind, binary, copying, freezing, selecting, kind, Placed, reads_of, reads, All, Readable, Ordered, records}
use Rattle.semantics.specs.Rules.{numbered, Match, Agrees, Agree, Alike, Stands, Distinct, home, moved, placed}
use Rattle.semantics.specs.declared.Operand.{Operand}
use Rattle.semantics.specs.declared.Operand.TheVariants.{Input, Record, Constant}
use Rattle.semantics.specs.declared.Instruction.{Instruction}
use Rattle.semantics.proofs.Members.{same_test, into_more, other_test, same?, In, in_here, in_first, in_there, in_cases, unlike, out, Each, each_head, each_tail, all_weaker}
use Rattle.semantics.proofs.Order.{next_apart}
use Rattle.semantics.proofs.Operands.{readable_more}

get_or_in : (xs : List ℕ) (a : ℕ) → a < length xs → In (get_or xs a 0) xs
get_or_in [] a h = absurd (omega arith)
get_or_in (x ∷ xs) zero h = in_first x xs
get_or_in (x ∷ xs) (suc a) h = in_there (get_or xs a 0) x xs (get_or_in xs a (omega arith))

-- the places of a list without repetition are told by what stands there
get_or_apart : (xs : List ℕ) → Distinct xs → (a b : ℕ) → a < length xs → b < length xs → get_or xs a 0 ≡ get_or xs b 0 → a ≡ b
get_or_apart [] d a b h k e = absurd (omega arith)
get_or_apart (x ∷ xs) d zero zero h k e = refl
get_or_apart (x ∷ xs) d zero (suc b) h k e = absurd (unlike x xs d.0 (get_or xs b 0) (get_or_in xs b (omega arith)) (sym e))
get_or_apart (x ∷ xs) d (suc a) zero h k e = absurd (unlike x xs d.0 (get_or xs a 0) (get_or_in xs a (omega arith)) e)
get_or_apart (x ∷ xs) d (suc a) (suc b) h k e = ap suc (get_or_apart xs d.1 a b (omega arith) (omega arith) e)

-- the j-th of n
pub record Within (n j : ℕ) : Type 0 where
  pub low : 1 ≤ j
  pub high : j ≤ n

pub numbered_within : (n k : ℕ) (is : List Instruction) → 1 ≤ k → k + length is ≤ suc n → Each (numbered k is) (λ j i. Within n j)
numbered_within n k [] low high j i s = absurd s
numbered_within n k (x ∷ is) low high j i (inl e) = subst (Within n) e.0 (record { low = low; high = omega arith })
numbered_within n k (x ∷ is) low high j i (inr s) = numbered_within n (suc k) is (omega arith) (omega arith) j i s

pub length_numbered : (k : ℕ) (is : List Instruction) → length (numbered k is) ≡ length is
length_numbered k [] = refl
length_numbered k (i ∷ is) = ap suc (length_numbered (suc k) is)

pub numbered_has : (k : ℕ) (is : List Instruction) (j : ℕ) → k ≤ j → j < k + length is → In j (records (numbered k is))
numbered_has k [] j low high = absurd (omega arith)
numbered_has k (x ∷ is) j low high = ⊎_elim (λ same. in_here j k _ same) (λ other. in_there j k _ (numbered_has (suc k) is j (omega arith) (omega arith))) (same? j k)

module _ (fresh : List ℕ) (at n : ℕ) (enough : suc (length fresh) ≡ n) where
  pub home_last : (j : ℕ) → j ≡ n → home fresh at n j ≡ at
  home_last j e = cond-true (eqb j n) at (get_or fresh (j - 1) 0) (same_test e)

  pub home_new : (j : ℕ) → (j ≡ n → ⊥) → home fresh at n j ≡ get_or fresh (j - 1) 0
  home_new j e = cond-false (eqb j n) at (get_or fresh (j - 1) 0) (other_test e)

  -- an instruction of the target takes the place of the match or a new record
  pub home_cases : (j : ℕ) → Within n j → (home fresh at n j ≡ at) ⊎ In (home fresh at n j) fresh
  home_cases j b = ⊎_elim (λ e. inl (home_last j e)) (λ e. inr (subst⁻¹ (λ z. In z fresh) (home_new j e) (get_or_in fresh (j - 1) (omega arith)))) (same? j n)

  -- no two share a record
  pub home_apart : Distinct fresh → (In at fresh → ⊥) → (j k : ℕ) → Within n j → Within n k → home fresh at n j ≡ home fresh at n k → j ≡ k
  home_apart d old j k b c e = go (same? j n) (same? k n)
    where
      new : (j : ℕ) → Within n j → (j ≡ n → ⊥) → at ≡ home fresh at n j → ⊥
      new j b other same = old (subst⁻¹ (λ z. In z fresh) (same ∙ home_new j other) (get_or_in fresh (j - 1) (omega arith)))

      go : (j ≡ n) ⊎ (j ≡ n → ⊥) → (k ≡ n) ⊎ (k ≡ n → ⊥) → j ≡ k
      go (inl x) (inl y) = x ∙ sym y
      go (inl x) (inr y) = absurd (new k c y (sym (home_last j x) ∙ e))
      go (inr x) (inl y) = absurd (new j b x (sym (home_last k y) ∙ sym e))
      go (inr x) (inr y) =
          let places = get_or_apart fresh d (j - 1) (k - 1) (omega arith) (omega arith) (sym (home_new j x) ∙ e ∙ home_new k y) in
          omega arith

module _ (w : Match) (h : ℕ → ℕ) where
  -- the match of the target with its instructions in the new body
  abbrev pub rehomed : Match
  rehomed = record { record_of = h; operand_of = w.operand_of }

  moved_agrees : (o : Operand) → Agrees rehomed o (moved w h o)
  moved_agrees (Input v) = refl
  moved_agrees (Record j) = refl
  moved_agrees (Constant c) = refl

  agree_of : (k : Kind) (x : Placed) → Agree rehomed (reads_of k x.what) (reads_of k (placed w h x).what)
  agree_of binary x = (moved_agrees x.what.first, (moved_agrees x.what.second, tt))
  agree_of copying x = (moved_agrees x.what.first, tt)
  agree_of freezing x = (moved_agrees x.what.first, tt)
  agree_of selecting x = (moved_agrees x.what.first, (moved_agrees x.what.second, (moved_agrees x.what.third, tt)))

  -- an instruction is like itself at home
  pub alike_home : (x : Placed) → Alike rehomed x.what (placed w h x).what
  alike_home x = (refl, refl, agree_of (kind x.what.operation) x)

  -- each instruction has one like it, at home
  pub stands_home : (xs : List Placed) → Each xs (λ j t. (i : Instruction) × Stands (map (placed w h) xs) (h j) i × Alike rehomed t i)
  stands_home [] j t s = absurd s
  stands_home (x ∷ xs) j t (inl e) = ((placed w h x).what, inl (ap h e.0, refl), subst (λ t. Alike rehomed t (placed w h x).what) e.1 (alike_home x))
  stands_home (x ∷ xs) j t (inr s) = let (i, there, alike) = stands_home xs j t s in (i, inr there, alike)

  -- what stands in a home is like an instruction of the target
  pub home_stands : (xs : List Placed) → Each (map (placed w h) xs) (λ r i. (j : ℕ) × (t : Instruction) × Stands xs j t × (h j ≡ r) × Alike rehomed t i)
  home_stands [] r i s = absurd s
  home_stands (x ∷ xs) r i (inl e) = (x.at, x.what, inl (refl, refl), e.0, subst (Alike rehomed x.what) e.1 (alike_home x))
  home_stands (x ∷ xs) r i (inr s) = let (j, t, there, e, alike) = home_stands xs r i s in (j, t, inr there, e, alike)

  moved_readable : (m : Model) (k n : ℕ) (d e : List ℕ) → ((j : ℕ) → In j d → In (h j) e) → ((v : ℕ) → v < k → Readable m n e (w.operand_of v)) → (o : Operand) → Readable m k d o → Readable m n e (moved w h o)
  moved_readable m k n d e into ready (Input v) r = ready v r
  moved_readable m k n d e into ready (Record j) r = into j r
  moved_readable m k n d e into ready (Constant c) r = r

  reads_moved : (t : Kind) (P : Operand → Type 0) (x : Placed) → All (λ o. P (moved w h o)) (reads_of t x.what) → All P (reads_of t (placed w h x).what)
  reads_moved binary P x a = a
  reads_moved copying P x a = a
  reads_moved freezing P x a = a
  reads_moved selecting P x a = a

  -- a target in order is in order at home
  pub home_ordered : (m : Model) (k n : ℕ) (d e : List ℕ) (xs : List Placed) → Ordered m k d xs → ((j : ℕ) → In j d → In (h j) e) → ((v : ℕ) → v < k → Readable m n e (w.operand_of v)) →
      Each xs (λ j i. (1 ≤ h j) × (h j ≤ 64)) → Each xs (λ j i. In (h j) e → ⊥) → Each xs (λ j i. Each xs (λ l t. h j ≡ h l → j ≡ l)) → Ordered m n e (map (placed w h) xs)
  home_ordered m k n d e [] o into ready range new apart = tt
  home_ordered m k n d e (x ∷ xs) o into ready range new apart =
      let here = each_head x xs range in (
        here.0,
        here.1,
        out (h x.at) e (each_head x xs new),
        reads_moved (kind x.what.operation) (Readable m n e) x (all_weaker (Readable m k d) _ (moved_readable m k n d e into ready) (reads x.what) o.3),
        home_ordered m k n (x.at ∷ d) (h x.at ∷ e) xs o.4
            (into_more h d e x.at into)
            (λ v l. readable_more m n e (h x.at ∷ e) (λ q t. in_there q (h x.at) e t) (w.operand_of v) (ready v l))
            (each_tail x xs range)
            (λ j i s there. ⊎_elim (λ same. next_apart m k d x xs o j i s (apart j i (inr s) x.at x.what (inl (refl, refl)) same)) (new j i (inr s)) (in_cases (h j) (h x.at) e there))
            (λ j i s l t u. apart j i (inr s) l t (inr u)),
      )
