-- What was loaded is kept by any list of calls. Assumes nothing.
use Rattle.std.proofs.Common.{◌≡◌, ℕ, List, [], ◌∷◌, ◌++◌, Some, None, Option, refl, ap, ◌∙◌, subst, arith}
use mathlib.Core.Path.{subst⁻¹}
use Rattle.domain.specs.Model.{Model, Lawful, OutcomeRefines, Outcome}
use Rattle.semantics.specs.Programs.{Program, Refines, Evaluated, unevaluated, evaluation, outcome, records}
use Rattle.semantics.specs.Rules.{Rule}
use Rattle.semantics.specs.Cases.{Case, first_refuting}
use Rattle.semantics.specs.Changes.{Loaded, Changed, changed, unchanged, rewrite_at, Passing, visits, ProperProgram}
use Rattle.semantics.proofs.Refinement.{refines_itself, refines_on, inputs_moved}
use Rattle.semantics.proofs.Evaluations.{evaluated_inside}
use Rattle.semantics.proofs.Passes.{Changes, rewrite_changes, visits_follow}
use Rattle.scan.specs.Pieces.{Bytes}
use Rattle.text.specs.Faults.{Read, accepted}
use Rattle.text.specs.RuleTexts.{read_rule}
use Rattle.text.specs.ProgramTexts.{read_program}
use Rattle.text.proofs.ProgramMade.{program_made}
use Rattle.calls.specs.Bench.{Slot, empty, State, Call, Answer, take_slot, draft_read, check_found, check_slot, withdraw_slot, strike_slot, load_read, apply_changed, apply_slot, apply_loaded, rules, pass_loaded, evaluate_answer, evaluate_loaded}
use Rattle.calls.specs.Histories.{fresh, next, after_from, loaded_by, or_former, loaded_from, Refining, RefinesOne, Kept, OneMore}
use Rattle.calls.specs.States.{Proper, ProperLoaded, ReachedProper}
use Rattle.calls.proofs.Slots.{starts_proper, entry_checked, book_entries}
use Rattle.calls.proofs.Calls.{evaluates_same, stays_proper}

-- a program that refines the present one refines the last loaded
refining_on : (m : Model) → Lawful m → (l l2 : Loaded) (former : Option Program) → Refines m l2.program l.program → Refining m (Some l) former → Refining m (Some l2) former
refining_on m law l l2 None refines h = absurd h
refining_on m law l l2 (Some p) refines h = refines_on m law l2.program l.program p refines h

module _ (m : Model) (law : Lawful m) (st : State) (proper : Proper m st) (former : Option Program) (kept : Refining m st.loaded former) where
  -- calls that leave the program alone
  taken : (r : Rule) (free : List ℕ) → (take_slot st r free).1.loaded ≡ st.loaded
  taken r [] = refl
  taken r (s ∷ ss) = refl

  -- draft
  drafted : (x : Read Rule) → (draft_read st x).1.loaded ≡ st.loaded
  drafted (accepted r) = taken r st.free
  drafted (Read.refused f) = refl

  -- check of a draft
  checked : (s : ℕ) (r : Rule) (o : Option Case) → (check_found st s r o).1.loaded ≡ st.loaded
  checked s r None = refl
  checked s r (Some c) = refl

  -- check
  checks : (s : ℕ) (x : Slot) → (check_slot m st s x).1.loaded ≡ st.loaded
  checks s empty = refl
  checks s (Slot.draft r) = checked s r (first_refuting m r)
  checks s (Slot.entered r) = refl

  -- withdraw
  withdraws : (s : ℕ) (x : Slot) → (withdraw_slot st s x).1.loaded ≡ st.loaded
  withdraws s empty = refl
  withdraws s (Slot.draft r) = refl
  withdraws s (Slot.entered r) = refl

  -- strike
  strikes : (s : ℕ) (x : Slot) → (strike_slot st s x).1.loaded ≡ st.loaded
  strikes s empty = refl
  strikes s (Slot.draft r) = refl
  strikes s (Slot.entered r) = refl

  -- a load
  loads : (t : Bytes) (x : Read Program) → read_program m t ≡ x → Refining m (load_read st x).1.loaded (or_former x former)
  loads t (accepted p) e = refines_itself m law p (program_made m t p e).formed
  loads t (Read.refused f) e = kept

  -- apply
  changes : (l : Loaded) (c : Changed) → Changes m law l c → Refining m (Some l) former → Refining m (apply_changed st c).1.loaded former
  changes l (changed l2) h before = refining_on m law l l2 former h.1 before
  changes l (unchanged k) h before = kept

  -- of a rule
  applies_rule : (s at : ℕ) (l : Loaded) → ProperProgram m l → Refining m (Some l) former → (x : Slot) → st.slots s ≡ x → Refining m (apply_slot st l at x).1.loaded former
  applies_rule s at l good before empty e = kept
  applies_rule s at l good before (Slot.draft r) e = kept
  applies_rule s at l good before (Slot.entered r) e = changes l (rewrite_at l r at) (rewrite_changes m law l good r (entry_checked m (proper.entries s r e)) at) before

  -- of what is in a slot
  applies : (s at : ℕ) (o : Option Loaded) → ProperLoaded m o → Refining m o former → Refining m (apply_loaded st s at o).1.loaded former
  applies s at None good before = kept
  applies s at (Some l) good before = applies_rule s at l good before (st.slots s) refl

  -- pass
  passes : (o : Option Loaded) → ProperLoaded m o → Refining m o former → Refining m (pass_loaded st o).1.loaded former
  passes None good before = kept
  passes (Some l) good before =
      let all = rules st.slots st.book in
      let begin : Passing = record { count = 0; now = l } in
      let ats = records l.program.body in
      refining_on m law l (visits all begin ats).now former (visits_follow m law all (book_entries m st.slots proper.entries st.book) begin good ats).1 before

  -- where the program is the same, it is kept
  abbrev same : {x : Option Loaded} → x ≡ st.loaded → Refining m x former
  same e = subst⁻¹ (λ z. Refining m z former) e kept

-- each call keeps what was loaded
pub stays_refining : (m : Model) → Lawful m → (st : State) → Proper m st → (former : Option Program) → Refining m st.loaded former → (c : Call) → Refining m (next m st c).loaded (loaded_by m c former)
stays_refining m law st proper former kept (Call.draft t) = same m law st proper former kept (drafted m law st proper former kept (read_rule m t))
stays_refining m law st proper former kept (Call.load t) = loads m law st proper former kept t (read_program m t) refl
stays_refining m law st proper former kept (Call.check s) = same m law st proper former kept (checks m law st proper former kept s (st.slots s))
stays_refining m law st proper former kept (Call.withdraw s) = same m law st proper former kept (withdraws m law st proper former kept s (st.slots s))
stays_refining m law st proper former kept (Call.strike s) = same m law st proper former kept (strikes m law st proper former kept s (st.slots s))
stays_refining m law st proper former kept (Call.apply s at) = applies m law st proper former kept s at st.loaded proper.program kept
stays_refining m law st proper former kept Call.pass = passes m law st proper former kept st.loaded proper.program kept
stays_refining m law st proper former kept (Call.evaluate ins cs) = same m law st proper former kept (ap (λ z. z.loaded) (evaluates_same m law st proper ins cs st.loaded))

-- after any list of calls
after_proper : (m : Model) → Lawful m → (st : State) → Proper m st → (calls : List Call) → Proper m (after_from m st calls)
after_proper m law st proper [] = proper
after_proper m law st proper (c ∷ cs) = after_proper m law (next m st c) (stays_proper m law st proper c) cs

-- on a fresh bench
pub reached_proper : (m : Model) → Lawful m → ReachedProper m
reached_proper m law calls = after_proper m law fresh (starts_proper m) calls

-- what was loaded is kept after them
after_refining : (m : Model) → Lawful m → (st : State) → Proper m st → (former : Option Program) → Refining m st.loaded former → (calls : List Call) → Refining m (after_from m st calls).loaded (loaded_from m former calls)
after_refining m law st proper former kept [] = kept
after_refining m law st proper former kept (c ∷ cs) = after_refining m law (next m st c) (stays_proper m law st proper c) (loaded_by m c former) (stays_refining m law st proper former kept c) cs

-- an accepted evaluation answers an outcome of the present program for inputs and choices of it
evaluates : (m : Model) (st : State) (ins cs : List ℕ) (o : Outcome) (present : Option Loaded) (former : Option Program) → Refining m present former → (evaluate_loaded m st ins cs present).0 ≡ Answer.evaluated o → RefinesOne m o ins former
evaluates m st ins cs o None former h e = let z : ◌≡◌ {A = ℕ} 0 1 = cc in absurd (omega arith)
evaluates m st ins cs o (Some l) None h e = absurd h
evaluates m st ins cs o (Some l) (Some p) h e = go (evaluation m l.program ins cs) refl e
  where
    go : (x : Evaluated) → evaluation m l.program ins cs ≡ x → (evaluate_answer st x).0 ≡ Answer.evaluated o → RefinesOne m o ins (Some p)
    go (Evaluated.evaluated q) was e =
        let (given, chosen, is) = evaluated_inside m l.program ins cs q was in
        let (ds, chosen2, k) = h.each ins cs given chosen in
        let same : q ≡ o = cc in
        (inputs_moved m l.program p h.inputs ins given, (ds, chosen2, subst (λ z. OutcomeRefines m z (outcome m p ins ds)) (is ∙ same) k))
    go (unevaluated k) was e = let z : ◌≡◌ {A = ℕ} 0 1 = cc in absurd (omega arith)

-- any list of calls keeps what was loaded
pub kept : (m : Model) → Lawful m → Kept m
kept m law calls =
    let present = after_refining m law fresh (starts_proper m) None tt calls in
    record {
      present = present;
      evaluates = λ ins cs o e. evaluates m (after_from m fresh calls) ins cs o (after_from m fresh calls).loaded (loaded_from m None calls) present e;
    }

-- one more call
after_one : (m : Model) (st : State) (calls : List Call) (c : Call) → after_from m st (calls ++ (c ∷ [])) ≡ next m (after_from m st calls) c
after_one m st [] c = refl
after_one m st (d ∷ ds) c = after_one m (next m st d) ds c

-- what was loaded last, too
loaded_one : (m : Model) (former : Option Program) (calls : List Call) (c : Call) → loaded_from m former (calls ++ (c ∷ [])) ≡ loaded_by m c (loaded_from m former calls)
loaded_one m former [] c = refl
loaded_one m former (d ∷ ds) c = loaded_one m (loaded_by m d former) ds c

-- both
pub one_more : (m : Model) → OneMore m
one_more m calls c = record { state = after_one m fresh calls c; loaded = loaded_one m None calls c }
