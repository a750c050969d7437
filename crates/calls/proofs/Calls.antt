-- Each call keeps the state proper. Assumes nothing.
use Rattle.std.proofs.Common.{◌≡◌, ℕ, List, [], ◌∷◌, Some, None, Option, refl}
use mathlib.Core.Path.{subst⁻¹}
use Rattle.domain.specs.Model.{Model, Lawful}
use Rattle.semantics.specs.Programs.{Program, Evaluated, unevaluated, evaluation, records}
use Rattle.semantics.specs.Rules.{Rule}
use Rattle.semantics.specs.Cases.{Case, first_refuting}
use Rattle.semantics.specs.Changes.{Loaded, Changed, changed, unchanged, rewrite_at, ProperProgram}
use Rattle.semantics.proofs.Search.{checking_exact}
use Rattle.semantics.proofs.Loading.{load_proper}
use Rattle.semantics.proofs.Passes.{Changes, rewrite_changes, visits_follow}
use Rattle.scan.specs.Pieces.{Bytes}
use Rattle.text.specs.Faults.{Read, accepted}
use Rattle.text.specs.RuleTexts.{read_rule}
use Rattle.text.specs.ProgramTexts.{read_program}
use Rattle.text.specs.Accepted.{RuleSaid}
use Rattle.text.proofs.RuleMade.{rule_made}
use Rattle.text.proofs.ProgramMade.{program_made}
use Rattle.calls.specs.Bench.{Slot, empty, State, Call, take_slot, draft_read, check_found, check_slot, withdraw_slot, strike_slot, load_read, apply_changed, apply_slot, apply_loaded, rules, pass_loaded, evaluate_answer, evaluate_loaded}
use Rattle.calls.specs.States.{Proper, ProperLoaded, StaysProper}
use Rattle.calls.proofs.Slots.{loaded_proper, taken_proper, entered_proper, ended_proper, struck_proper, entry_checked, book_entries}

module _ (m : Model) (law : Lawful m) (st : State) (proper : Proper m st) where
  -- a slot taken
  taken : (r : Rule) → RuleSaid m r → (free : List ℕ) → st.free ≡ free → Proper m (take_slot st r free).1
  taken r good [] e = proper
  taken r good (s ∷ ss) e = taken_proper m st proper s ss e r good

  -- draft
  drafted : (t : Bytes) (x : Read Rule) → read_rule m t ≡ x → Proper m (draft_read st x).1
  drafted t (accepted r) e = taken r (rule_made m t r e) st.free refl
  drafted t (Read.refused f) e = proper

  -- load
  loads : (t : Bytes) (x : Read Program) → read_program m t ≡ x → Proper m (load_read st x).1
  loads t (accepted p) e = let said = program_made m t p e in loaded_proper m st proper _ (load_proper m p said.formed said.in_order)
  loads t (Read.refused f) e = proper

  -- check of a draft
  checked : (s : ℕ) (r : Rule) → st.slots s ≡ Slot.draft r → (o : Option Case) → first_refuting m r ≡ o → Proper m (check_found st s r o).1
  checked s r e None f = entered_proper m st proper s r e ((checking_exact m law r).none.0 f)
  checked s r e (Some c) f = ended_proper m st proper s r e

  -- check
  checks : (s : ℕ) (x : Slot) → st.slots s ≡ x → Proper m (check_slot m st s x).1
  checks s empty e = proper
  checks s (Slot.draft r) e = checked s r e (first_refuting m r) refl
  checks s (Slot.entered r) e = proper

  -- withdraw
  withdraws : (s : ℕ) (x : Slot) → st.slots s ≡ x → Proper m (withdraw_slot st s x).1
  withdraws s empty e = proper
  withdraws s (Slot.draft r) e = ended_proper m st proper s r e
  withdraws s (Slot.entered r) e = proper

  -- strike
  strikes : (s : ℕ) (x : Slot) → st.slots s ≡ x → Proper m (strike_slot st s x).1
  strikes s empty e = proper
  strikes s (Slot.draft r) e = proper
  strikes s (Slot.entered r) e = struck_proper m st proper s r e

  -- a program changed by apply
  changes : (l : Loaded) (c : Changed) → Changes m law l c → Proper m (apply_changed st c).1
  changes l (changed l2) h = loaded_proper m st proper l2 h.0
  changes l (unchanged k) h = proper

  -- apply of a rule
  applies_rule : (s at : ℕ) (l : Loaded) → ProperProgram m l → (x : Slot) → st.slots s ≡ x → Proper m (apply_slot st l at x).1
  applies_rule s at l good empty e = proper
  applies_rule s at l good (Slot.draft r) e = proper
  applies_rule s at l good (Slot.entered r) e = changes l (rewrite_at l r at) (rewrite_changes m law l good r (entry_checked m (proper.entries s r e)) at)

  -- apply
  applies : (s at : ℕ) (o : Option Loaded) → ProperLoaded m o → Proper m (apply_loaded st s at o).1
  applies s at None good = proper
  applies s at (Some l) good = applies_rule s at l good (st.slots s) refl

  -- pass
  passes : (o : Option Loaded) → ProperLoaded m o → Proper m (pass_loaded st o).1
  passes None good = proper
  passes (Some l) good =
      loaded_proper m st proper _
      (visits_follow m law (rules st.slots st.book) (book_entries m st.slots proper.entries st.book) (record { count = 0; now = l }) good (records l.program.body)).0

  -- an evaluation changes nothing
  evaluated_same : (x : Evaluated) → (evaluate_answer st x).1 ≡ st
  evaluated_same (Evaluated.evaluated o) = refl
  evaluated_same (unevaluated k) = refl

  pub evaluates_same : (ins cs : List ℕ) (o : Option Loaded) → (evaluate_loaded m st ins cs o).1 ≡ st
  evaluates_same ins cs None = refl
  evaluates_same ins cs (Some l) = evaluated_same (evaluation m l.program ins cs)

-- each call keeps the state proper
pub stays_proper : (m : Model) → Lawful m → StaysProper m
stays_proper m law st proper (Call.draft t) = drafted m law st proper t (read_rule m t) refl
stays_proper m law st proper (Call.load t) = loads m law st proper t (read_program m t) refl
stays_proper m law st proper (Call.check s) = checks m law st proper s (st.slots s) refl
stays_proper m law st proper (Call.withdraw s) = withdraws m law st proper s (st.slots s) refl
stays_proper m law st proper (Call.strike s) = strikes m law st proper s (st.slots s) refl
stays_proper m law st proper (Call.apply s at) = applies m law st proper s at st.loaded proper.program
stays_proper m law st proper Call.pass = passes m law st proper st.loaded proper.program
stays_proper m law st proper (Call.evaluate ins cs) = subst⁻¹ (Proper m) (evaluates_same m law st proper ins cs st.loaded) proper
