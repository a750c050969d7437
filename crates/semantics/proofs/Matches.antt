-- Where the matches of a rule stand, and what its variables may read there. Assumes nothing.
use Rattle.std.proofs.Common.{◌≡◌, ℕ, suc, ◌+◌, ◌≤◌, T, ◌⊎◌, List, [], ◌∷◌, map, length, sym, refl, ap, ◌∙◌, subst, inl, inr, ⊎_elim, arith}
use Rattle.domain.specs.Model.{Model}
use Rattle.semantics.specs.Programs.{Placed, reads, records, Readable, Ordered}
use Rattle.semantics.specs.Rules.{numbered, any_reads, read_in, AllRead, reads_variable, variable_in, Match, Agrees, Stands, Matched, Distinct, front}
use Rattle.semantics.specs.declared.Operand.{Operand}
use Rattle.semantics.specs.declared.Operand.TheVariants.{Input, Record}
use Rattle.semantics.specs.declared.Instruction.{Instruction}
use Rattle.semantics.proofs.Members.{either_passes, In, in_here, in_there, in_cases, unlike, Each, each_cons}
use Rattle.semantics.proofs.Operands.{Occurs, all_occurs, reads_occurs, variable_occurs, fellow, readable_more}
use Rattle.semantics.proofs.Order.{before, before_trans, reads_before}

-- what is read in a list is read by one of its instructions
pub read_by : (k : ℕ) (xs : List Placed) → T (read_in k xs) → (r : ℕ) × (i : Instruction) × Stands xs r i × Occurs (Record k) (reads i)
read_by k [] t = absurd t
read_by k (x ∷ xs) t =
    ⊎_elim
    (λ h. (x.at, x.what, inl (refl, refl), reads_occurs k (reads x.what) h))
    (λ h. let (r, i, s, o) = read_by k xs h in (r, i, inr s, o))
    (either_passes (any_reads (k ∷ []) (reads x.what)) (read_in k xs) t)

pub variable_by : (v k : ℕ) (is : List Instruction) → T (variable_in v is) → (r : ℕ) × (i : Instruction) × Stands (numbered k is) r i × Occurs (Input v) (reads i)
variable_by v k [] t = absurd t
variable_by v k (x ∷ xs) t =
    ⊎_elim
    (λ h. (k, x, inl (refl, refl), variable_occurs v (reads x) h))
    (λ h. let (r, i, s, o) = variable_by v (suc k) xs h in (r, i, inr s, o))
    (either_passes (reads_variable v (reads x)) (variable_in v xs) t)

-- the last of some source instructions is matched in the record `at`
abbrev pub Closes : Match → ℕ → List Placed → Type 0
Closes w at [] = ⊥
Closes w at (x ∷ []) = w.record_of x.at ≡ at
Closes w at (x ∷ y ∷ xs) = Closes w at (y ∷ xs)

last_closes : (w : Match) (at k : ℕ) (i : Instruction) (is : List Instruction) → w.record_of (k + length is) ≡ at → Closes w at (numbered k (i ∷ is))
last_closes w at k i [] e = ap w.record_of (omega arith) ∙ e
last_closes w at k i (j ∷ is) e = last_closes w at (suc k) j is (ap w.record_of (omega arith) ∙ e)

pub closes : (w : Match) (at : ℕ) (is : List Instruction) → 1 ≤ length (numbered 1 is) → w.record_of (length is) ≡ at → Closes w at (numbered 1 is)
closes w at [] some e = absurd (omega arith)
closes w at (i ∷ is) some e = last_closes w at 1 i is (ap w.record_of (omega arith) ∙ e)

module _ (w : Match) (at : ℕ) where
  abbrev pub found : List Placed → List ℕ
  found ss = map (λ s. w.record_of s.at) ss

  pub last_found : (ss : List Placed) → Closes w at ss → In at (found ss)
  last_found [] c = absurd c
  last_found (x ∷ []) c = in_here at (w.record_of x.at) [] (sym c)
  last_found (x ∷ y ∷ ss) c = in_there at (w.record_of x.at) (found (y ∷ ss)) (last_found (y ∷ ss) c)

  -- each match is that of a source instruction
  pub found_by : (ss : List Placed) (r : ℕ) → In r (found ss) → (j : ℕ) × (s : Instruction) × Stands ss j s × (w.record_of j ≡ r)
  found_by [] r h = absurd h
  found_by (x ∷ ss) r h =
      ⊎_elim
      (λ same. (x.at, x.what, inl (refl, refl), sym same))
      (λ t. let (j, s, there, e) = found_by ss r t in (j, s, inr there, e))
      (in_cases r (w.record_of x.at) (found ss) h)

  -- a match is the last one or one of the others
  pub front_or_last : (ss : List Placed) → Closes w at ss → (r : ℕ) → In r (found ss) → In r (front (found ss)) ⊎ (r ≡ at)
  front_or_last [] c r h = absurd c
  front_or_last (x ∷ []) c r h = inr (⊎_elim (λ e. e ∙ c) (λ n. absurd n) (in_cases r (w.record_of x.at) [] h))
  front_or_last (x ∷ y ∷ ss) c r h =
      ⊎_elim
      (λ e. inl (in_here r (w.record_of x.at) _ e))
      (λ t. ⊎_elim (λ f. inl (in_there r (w.record_of x.at) _ f)) inr (front_or_last (y ∷ ss) c r t))
      (in_cases r (w.record_of x.at) (found (y ∷ ss)) h)

  -- the last match is none of the others
  pub last_stays : (ss : List Placed) → Closes w at ss → Distinct (found ss) → In at (front (found ss)) → ⊥
  last_stays [] c d h = absurd h
  last_stays (x ∷ []) c d h = absurd h
  last_stays (x ∷ y ∷ ss) c d h =
      ⊎_elim
      (λ e. unlike (w.record_of x.at) (found (y ∷ ss)) d.0 at (last_found (y ∷ ss) c) e)
      (last_stays (y ∷ ss) c d.1)
      (in_cases at (w.record_of x.at) _ h)

  module _ (m : Model) (n : ℕ) (body : List Placed) (ordered : Ordered m n [] body) where
    -- a source instruction is matched in record `at` or before it
    abbrev pub By : ℕ → Type 0
    By j = (w.record_of j ≡ at) ⊎ In (w.record_of j) (records (before at body))

    -- what a match reads may be read before `at`
    read_there : (j : ℕ) (s : Instruction) → Matched w body (record { at = j; what = s }) → By j → (o : Operand) → Occurs o (reads s) → (q : Operand) × Agrees w o q × Readable m n (records (before at body)) q
    read_there j s (i, stands, alike) by o occurs =
        let (q, reads-q, agrees) = fellow w (reads s) (reads i) alike.2 o occurs in
        let readable = all_occurs (Readable m n (records (before (w.record_of j) body))) (reads i) (reads_before m n body ordered (w.record_of j) i stands) q reads-q in
        (q, agrees, ⊎_elim (λ e. subst (λ z. Readable m n (records (before z body)) q) e readable) (λ h. readable_more m n _ _ (λ k t. before_trans body at (w.record_of j) k h t) q readable) by)

    -- each match stands in record `at` or before it, since a later one reads it
    pub matched_by : (ss : List Placed) → Each ss (λ j s. Matched w body (record { at = j; what = s })) → AllRead ss → Closes w at ss → Each ss (λ j s. By j)
    matched_by [] same read c j s there = absurd there
    matched_by (x ∷ []) same read c j s there = each_cons (λ j s. By j) x [] (inl c) (λ j s t. absurd t) j s there
    matched_by (x ∷ y ∷ ss) same read c j s there =
        let later = matched_by (y ∷ ss) (λ j s t. same j s (inr t)) read.1 c in
        let (k, t, stands, occurs) = read_by x.at (y ∷ ss) read.0 in
        let (q, agrees, readable) = read_there k t (same k t (inr stands)) (later k t stands) (Record x.at) occurs in
        each_cons (λ j s. By j) x (y ∷ ss) (inr (subst (Readable m n (records (before at body))) agrees readable)) later j s there

    -- the operand of each variable that the source reads may be read before `at`
    pub operand_readable : (is : List Instruction) → Each (numbered 1 is) (λ j s. Matched w body (record { at = j; what = s })) → Each (numbered 1 is) (λ j s. By j) → (v : ℕ) → T (variable_in v is) → Readable m n (records (before at body)) (w.operand_of v)
    operand_readable is same by v used =
        let (j, s, stands, occurs) = variable_by v 1 is used in
        let (q, agrees, readable) = read_there j s (same j s stands) (by j s stands) (Input v) occurs in
        subst (Readable m n (records (before at body))) agrees readable
