-- The candidate is the only match that can fit. Assumes nothing.
use Rattle.std.proofs.Common.{◌≡◌, ℕ, ◌<◌, ◌≤◌, Bool, true, false, cond, T, eqb, ◌⊎◌, List, [], ◌∷◌, length, Some, sym, refl, ap, ◌∙◌, subst, inl, inr, ⊎_elim, arith, eqb→eq}
use mathlib.Core.Path.{subst⁻¹}
use Rattle.std.proofs.lemmas.Bool.{cond-true}
use Rattle.domain.specs.Model.{Model}
use Rattle.semantics.specs.Programs.{Placed, Program, Formed, All, put, reads}
use Rattle.semantics.specs.Rules.{Rule, WellMade, numbered, Match, Stands, AllRead}
use Rattle.semantics.specs.Fitting.{Pairwise, Named, Takes, Holds, Like, Taking, Points1To2, Points3To4, look, learn, learn_all, learn_from, walk, candidate}
use Rattle.semantics.specs.declared.Operand.{Operand}
use Rattle.semantics.specs.declared.Operand.TheVariants.{Input, Record, Constant}
use Rattle.semantics.specs.declared.Instruction.{Instruction}
use Rattle.semantics.proofs.Members.{same_test, Each, in_stands}
use Rattle.semantics.proofs.Operands.{Occurs}
use Rattle.semantics.proofs.Matches.{Closes, closes, read_by, variable_by}
use Rattle.semantics.proofs.Homes.{numbered_has}
use Rattle.semantics.proofs.Looked.{stands_look}
use Rattle.semantics.proofs.Convicted.{itself}

-- an instruction of the list reads an operand
abbrev Reader : Operand → List Placed → Type 0
Reader o ss = (r : ℕ) × (i : Instruction) × Stands ss r i × Occurs o (reads i)

-- the first one reads it, or one of the rest
reader_cases : (o : Operand) (x : Placed) (ss : List Placed) → Reader o (x ∷ ss) → Occurs o (reads x.what) ⊎ Reader o ss
reader_cases o x ss (r, i, inl e, h) = inl (subst⁻¹ (λ z. Occurs o (reads z)) e.1 h)
reader_cases o x ss (r, i, inr s, h) = inr (r, i, s, h)

-- an instruction is the last one or read by a later one
next_read : (n : ℕ) (x : Placed) (ss : List Placed) → AllRead (x ∷ ss) → Closes itself n (x ∷ ss) → (x.at ≡ n) ⊎ Reader (Record x.at) ss
next_read n x [] read c = inl c
next_read n x (y ∷ ss) read c = inr (read_by x.at (y ∷ ss) read.0)

-- the rest are read as well
rest_read : (x : Placed) (ss : List Placed) → AllRead (x ∷ ss) → AllRead ss
rest_read x [] read = tt
rest_read x (y ∷ ss) read = read.1

-- each one is the last or read by one of the list
each_read : (n : ℕ) (ss : List Placed) → AllRead ss → Closes itself n ss → Each ss (λ j s. (j ≡ n) ⊎ Reader (Record j) ss)
each_read n [] read c j s there = absurd there
each_read n (x ∷ []) read c j s (inl e) = inl (sym e.0 ∙ c)
each_read n (x ∷ []) read c j s (inr there) = absurd there
each_read n (x ∷ y ∷ ss) read c j s (inl e) = subst (λ z. (z ≡ n) ⊎ Reader (Record z) (x ∷ y ∷ ss)) e.0 (let (r, i, t, h) = read_by x.at (y ∷ ss) read.0 in inr (r, i, inr t, h))
each_read n (x ∷ y ∷ ss) read c j s (inr there) = ⊎_elim inl (λ h. let (r, i, t, o) = h in inr (r, i, inr t, o)) (each_read n (y ∷ ss) read.1 c j s there)

module _ (w : Match) where
  -- a partial match agrees with w on the source's j-th instruction, or on its v-th variable
  abbrev Knows : Match → ℕ → Type 0
  Knows u j = u.record_of j ≡ w.record_of j

  -- or on its v-th variable
  abbrev KnowsVariable : Match → ℕ → Type 0
  KnowsVariable u v = u.operand_of v ≡ w.operand_of v

  -- a record that agrees spoils nothing
  put_knows : (f : ℕ → ℕ) (j q k : ℕ) → q ≡ w.record_of j → f k ≡ w.record_of k → put f j q k ≡ w.record_of k
  put_knows f j q k is known = go (eqb k j) (eqb→eq k j)
    where
      go : (b : Bool) → (T b → k ≡ j) → cond b q (f k) ≡ w.record_of k
      go true same = is ∙ ap w.record_of (sym (same tt))
      go false same = known

  -- nor does an operand that agrees
  take_knows : (f : ℕ → Operand) (v : ℕ) (o : Operand) (k : ℕ) → o ≡ w.operand_of v → f k ≡ w.operand_of k → cond (eqb k v) o (f k) ≡ w.operand_of k
  take_knows f v o k is known = go (eqb k v) (eqb→eq k v)
    where
      go : (b : Bool) → (T b → k ≡ v) → cond b o (f k) ≡ w.operand_of k
      go true same = is ∙ ap w.operand_of (sym (same tt))
      go false same = known

  -- to learn from an operand that agrees spoils nothing
  learn_keeps : (s o : Operand) (u : Match) (k : ℕ) → Named w s o → Knows u k → Knows (learn s o u) k
  learn_keeps (Input v) o u k n h = h
  learn_keeps (Record j) (Input v) u k n h = h
  learn_keeps (Record j) (Record q) u k n h = put_knows u.record_of j q k (cc) h
  learn_keeps (Record j) (Constant c) u k n h = h
  learn_keeps (Constant c) o u k n h = h

  -- the same for variables
  learn_keeps_variable : (s o : Operand) (u : Match) (k : ℕ) → Takes w s o → KnowsVariable u k → KnowsVariable (learn s o u) k
  learn_keeps_variable (Input v) o u k t h = take_knows u.operand_of v o k t h
  learn_keeps_variable (Record j) (Input v) u k t h = h
  learn_keeps_variable (Record j) (Record q) u k t h = h
  learn_keeps_variable (Record j) (Constant c) u k t h = h
  learn_keeps_variable (Constant c) o u k t h = h

  -- and what is met is known
  learn_new : (s o : Operand) (u : Match) (k : ℕ) → s ≡ Record k → Named w s o → Knows (learn s o u) k
  learn_new s o u k e n =
      let named : o ≡ Record (w.record_of k) = subst (λ z. Named w z o) e n in
      subst⁻¹ (λ z. Knows (learn z o u) k) e (subst⁻¹ (λ z. Knows (learn (Record k) z u) k) named (cond-true (eqb k k) (w.record_of k) (u.record_of k) (same_test refl)))

  -- the same for variables
  learn_new_variable : (s o : Operand) (u : Match) (v : ℕ) → s ≡ Input v → Takes w s o → KnowsVariable (learn s o u) v
  learn_new_variable s o u v e t =
      let takes : o ≡ w.operand_of v = subst (λ z. Takes w z o) e t in
      subst⁻¹ (λ z. KnowsVariable (learn z o u) v) e (cond-true (eqb v v) o (u.operand_of v) (same_test refl) ∙ takes)

  -- the same for all operands of an instruction
  all_keeps : (ss os : List Operand) (u : Match) (k : ℕ) → Pairwise (Named w) ss os → Knows u k → Knows (learn_all ss os u) k
  all_keeps [] os u k n h = h
  all_keeps (s ∷ ss) [] u k n h = h
  all_keeps (s ∷ ss) (o ∷ os) u k n h = all_keeps ss os (learn s o u) k n.1 (learn_keeps s o u k n.0 h)

  -- what they meet is known
  all_new : (ss os : List Operand) (u : Match) (k : ℕ) → Pairwise (Named w) ss os → Occurs (Record k) ss → Knows (learn_all ss os u) k
  all_new [] os u k n h = absurd h
  all_new (s ∷ ss) [] u k n h = absurd n
  all_new (s ∷ ss) (o ∷ os) u k n (inl e) = all_keeps ss os (learn s o u) k n.1 (learn_new s o u k e n.0)
  all_new (s ∷ ss) (o ∷ os) u k n (inr h) = all_new ss os (learn s o u) k n.1 h

  -- the same for variables
  all_keeps_variable : (ss os : List Operand) (u : Match) (k : ℕ) → Pairwise (Takes w) ss os → KnowsVariable u k → KnowsVariable (learn_all ss os u) k
  all_keeps_variable [] os u k t h = h
  all_keeps_variable (s ∷ ss) [] u k t h = h
  all_keeps_variable (s ∷ ss) (o ∷ os) u k t h = all_keeps_variable ss os (learn s o u) k t.1 (learn_keeps_variable s o u k t.0 h)

  -- the same for variables
  all_new_variable : (ss os : List Operand) (u : Match) (v : ℕ) → Pairwise (Takes w) ss os → Occurs (Input v) ss → KnowsVariable (learn_all ss os u) v
  all_new_variable [] os u v t h = absurd h
  all_new_variable (s ∷ ss) [] u v t h = absurd t
  all_new_variable (s ∷ ss) (o ∷ os) u v t (inl e) = all_keeps_variable ss os (learn s o u) v t.1 (learn_new_variable s o u v e t.0)
  all_new_variable (s ∷ ss) (o ∷ os) u v t (inr h) = all_new_variable ss os (learn s o u) v t.1 h

  module _ (m : Model) (p : Program) (formed : Formed m p) (n : ℕ) (start : Match) (first : Knows start n) where
    -- some last source instructions, each matched in points 1 and 2 with w
    abbrev NamedAll : List Placed → Type 0
    NamedAll ss = All (λ s. Holds p.body (w.record_of s.at) (Like w s.what)) ss

    -- they end with the last one, or there are none
    abbrev Ends : List Placed → Type 0
    Ends ss = Closes itself n ss ⊎ (ss ≡ [])

    -- the rest end so too
    ends_rest : (x : Placed) (ss : List Placed) → Ends (x ∷ ss) → Ends ss
    ends_rest x [] c = inr refl
    ends_rest x (y ∷ ss) (inl c) = inl c
    ends_rest x (y ∷ ss) (inr e) = let z : ◌≡◌ {A = ℕ} 0 1 = cc in absurd (omega arith)

    -- the first one is the last, or read by one of the rest
    ends_read : (x : Placed) (ss : List Placed) → AllRead (x ∷ ss) → Ends (x ∷ ss) → (x.at ≡ n) ⊎ Reader (Record x.at) ss
    ends_read x ss read (inl c) = next_read n x ss read c
    ends_read x ss read (inr e) = let z : ◌≡◌ {A = ℕ} 0 1 = cc in absurd (omega arith)

    -- where a match is known, its instruction is found
    found_there : (u : Match) (x : Placed) (i : Instruction) → Knows u x.at → Stands p.body (w.record_of x.at) i → look p.body (u.record_of x.at) ≡ Some i
    found_there u x i known there = ap (look p.body) known ∙ stands_look m p.inputs [] p.body formed.ordered (w.record_of x.at) i there

    -- a walk knows the last one, and what they read
    walk_knows : (ss : List Placed) → NamedAll ss → AllRead ss → Ends ss → (k : ℕ) → (k ≡ n) ⊎ Reader (Record k) ss → Knows (walk p.body ss start) k
    walk_knows [] same read c k (inl e) = subst⁻¹ (Knows start) e first
    walk_knows [] same read c k (inr h) = absurd h.2
    walk_knows (x ∷ ss) same read c k h =
        let rest = walk_knows ss same.1 (rest_read x ss read) (ends_rest x ss c) in
        let (i, there, like) = same.0 in
        subst⁻¹ (λ o. Knows (learn_from x.what o (walk p.body ss start)) k) (found_there (walk p.body ss start) x i (rest x.at (ends_read x ss read c)) there) (go rest i like h)
      where
        go : ((k : ℕ) → (k ≡ n) ⊎ Reader (Record k) ss → Knows (walk p.body ss start) k) → (i : Instruction) → Like w x.what i → (k ≡ n) ⊎ Reader (Record k) (x ∷ ss) → Knows (learn_all (reads x.what) (reads i) (walk p.body ss start)) k
        go rest i like (inl e) = all_keeps (reads x.what) (reads i) (walk p.body ss start) k like.2 (rest k (inl e))
        go rest i like (inr h) =
            ⊎_elim
            (all_new (reads x.what) (reads i) (walk p.body ss start) k like.2)
            (λ t. all_keeps (reads x.what) (reads i) (walk p.body ss start) k like.2 (rest k (inr t)))
            (reader_cases (Record k) x ss h)

    -- and the variables that they read
    walk_knows_variable : (ss : List Placed) → NamedAll ss → All (λ s. Holds p.body (w.record_of s.at) (Taking w s.what)) ss → AllRead ss → Ends ss → (v : ℕ) → Reader (Input v) ss → KnowsVariable (walk p.body ss start) v
    walk_knows_variable [] same taken read c v h = absurd h.2
    walk_knows_variable (x ∷ ss) same taken read c v h =
        let rest = walk_knows_variable ss same.1 taken.1 (rest_read x ss read) (ends_rest x ss c) v in
        let here = walk_knows ss same.1 (rest_read x ss read) (ends_rest x ss c) x.at (ends_read x ss read c) in
        let (i, there, takes) = taken.0 in
        subst⁻¹ (λ o. KnowsVariable (learn_from x.what o (walk p.body ss start)) v) (found_there (walk p.body ss start) x i here there)
        (⊎_elim
        (all_new_variable (reads x.what) (reads i) (walk p.body ss start) v takes)
        (λ t. all_keeps_variable (reads x.what) (reads i) (walk p.body ss start) v takes (rest t))
        (reader_cases (Input v) x ss h))

module _ (m : Model) (r : Rule) (made : WellMade m r) (p : Program) (formed : Formed m p) (at : ℕ) (w : Match) (names : Points1To2 p r at w) where
  -- what is known before the walk
  abbrev begin : Match
  begin = record { record_of = put (λ j. 0) (length r.source) at; operand_of = Input }

  -- it knows the last source instruction
  begins : begin.record_of (length r.source) ≡ w.record_of (length r.source)
  begins = cond-true (eqb (length r.source) (length r.source)) at 0 (same_test refl) ∙ sym names.at_last

  -- the source ends with its last instruction
  source_ends : Closes itself (length r.source) (numbered 1 r.source)
  source_ends = closes itself (length r.source) r.source made.source_formed.some refl

  -- the candidate has w's record for each source instruction
  pub candidate_records : (j : ℕ) → 1 ≤ j → j ≤ length r.source → (candidate p r at).record_of j ≡ w.record_of j
  candidate_records j low high =
      let (s, there) = in_stands (numbered 1 r.source) j (numbered_has 1 r.source j low (omega arith)) in
      walk_knows w m p formed (length r.source) begin begins (numbered 1 r.source) names.same made.all_read (inl source_ends) j (each_read (length r.source) (numbered 1 r.source) made.all_read source_ends j s there)

  -- and w's operand for each variable
  pub candidate_operands : Points3To4 p r w → (v : ℕ) → v < r.variables → (candidate p r at).operand_of v ≡ w.operand_of v
  candidate_operands more v l =
      walk_knows_variable w m p formed (length r.source) begin begins (numbered 1 r.source) names.same more.taken made.all_read (inl source_ends) v (variable_by v 1 r.source (made.all_used v l))
