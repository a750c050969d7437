-- What a refusal leaves and tells. Assumes nothing.
use Rattle.std.proofs.Common.{◌≡◌, ℕ, ◌<◌, ◌⊎◌, List, [], ◌∷◌, Some, None, Option, refl, subst, ⊎_elim}
use Rattle.domain.specs.Model.{Model}
use Rattle.semantics.specs.Programs.{Program, Evaluated, unevaluated, evaluation}
use Rattle.semantics.specs.Rules.{Rule}
use Rattle.semantics.specs.Cases.{Case, first_refuting}
use Rattle.semantics.specs.Changes.{Loaded, Changed, changed, unchanged, rewrite_at}
use Rattle.scan.specs.Pieces.{Bytes}
use Rattle.text.specs.Faults.{Fault, fault, layer_of, Read, accepted}
use Rattle.text.specs.RuleTexts.{read_rule}
use Rattle.text.specs.ProgramTexts.{read_program}
use Rattle.text.specs.Refused.{Told}
use Rattle.text.proofs.Tellings.{rules_told, programs_told}
use Rattle.calls.specs.Bench.{Slot, empty, State, Call, Answer, refuse, freed_slot, take_slot, draft_read, check_found, check_slot, withdraw_slot, strike_slot, load_read, apply_changed, apply_slot, apply_loaded, pass_loaded, evaluate_answer, evaluate_loaded, call}
use Rattle.calls.specs.Histories.{next}
use Rattle.calls.specs.Refusals.{RefutesDraft, Refusals}

-- layer and line go by the number
abbrev Right : Fault → Type 0
Right f = (f.layer ≡ layer_of f.number) × ((f.number < 2) ⊎ (7 < f.number) → f.line ≡ 0)

-- a refusal leaves the state and tells a right fault; P holds where a rule is refuted
abbrev Says : (Fault → State → Type 0) → State → Answer → State → Type 0
Says P st (Answer.drafted s) new = Unit {0}
Says P st (Answer.entered s) new = Unit {0}
Says P st Answer.withdrawn new = Unit {0}
Says P st Answer.struck new = Unit {0}
Says P st Answer.loaded new = Unit {0}
Says P st Answer.applied new = Unit {0}
Says P st (Answer.passed n) new = Unit {0}
Says P st (Answer.evaluated o) new = Unit {0}
Says P st (Answer.refused f) new = (new ≡ st) × Right f
Says P st (Answer.refuted f c) new = P f new

-- what a call answers and leaves
abbrev Leaves : (Fault → State → Type 0) → State → Answer × State → Type 0
Leaves P st x = Says P st x.0 x.1

-- no call but check refutes
abbrev Never : Fault → State → Type 0
Never f new = ⊥

-- a check refutes the draft in its slot, which is freed
abbrev Frees : State → ℕ → Fault → State → Type 0
Frees st s f new = (r : Rule) × (st.slots s ≡ Slot.draft r) × (f ≡ fault 11 0) × (new ≡ freed_slot st s st.book)

reader_right : (last : ℕ) (t : Bytes) (f : Fault) → Told last t f → Right f
reader_right last t f told = (told.layer, λ h. ⊎_elim told.no_line_before told.no_line_behind h)

module _ (m : Model) (st : State) where
  -- a refusal at no line
  plainly : (P : Fault → State → Type 0) (k : ℕ) → Leaves P st (refuse st k)
  plainly P k = (refl, (refl, λ h. refl))

  taken : (r : Rule) (free : List ℕ) → Leaves Never st (take_slot st r free)
  taken r [] = plainly Never 10
  taken r (s ∷ ss) = tt

  drafts : (t : Bytes) (x : Read Rule) → read_rule m t ≡ x → Leaves Never st (draft_read st x)
  drafts t (accepted r) e = taken r st.free
  drafts t (Read.refused f) e = (refl, reader_right 9 t f (rules_told m t f e))

  loads : (t : Bytes) (x : Read Program) → read_program m t ≡ x → Leaves Never st (load_read st x)
  loads t (accepted p) e = tt
  loads t (Read.refused f) e = (refl, reader_right 7 t f (programs_told m t f e))

  found : (s : ℕ) (r : Rule) → st.slots s ≡ Slot.draft r → (o : Option Case) → Leaves (Frees st s) st (check_found st s r o)
  found s r held None = tt
  found s r held (Some c) = (r, held, refl, refl)

  checks : (s : ℕ) (x : Slot) → st.slots s ≡ x → Leaves (Frees st s) st (check_slot m st s x)
  checks s empty e = plainly (Frees st s) 12
  checks s (Slot.draft r) e = found s r e (first_refuting m r)
  checks s (Slot.entered r) e = plainly (Frees st s) 12

  withdraws : (s : ℕ) (x : Slot) → Leaves Never st (withdraw_slot st s x)
  withdraws s empty = plainly Never 12
  withdraws s (Slot.draft r) = tt
  withdraws s (Slot.entered r) = plainly Never 12

  strikes : (s : ℕ) (x : Slot) → Leaves Never st (strike_slot st s x)
  strikes s empty = plainly Never 14
  strikes s (Slot.draft r) = plainly Never 14
  strikes s (Slot.entered r) = tt

  changes : (c : Changed) → Leaves Never st (apply_changed st c)
  changes (changed l) = tt
  changes (unchanged k) = plainly Never k

  applies_slot : (l : Loaded) (at : ℕ) (x : Slot) → Leaves Never st (apply_slot st l at x)
  applies_slot l at empty = plainly Never 14
  applies_slot l at (Slot.draft r) = plainly Never 14
  applies_slot l at (Slot.entered r) = changes (rewrite_at l r at)

  applies : (s at : ℕ) (o : Option Loaded) → Leaves Never st (apply_loaded st s at o)
  applies s at None = plainly Never 13
  applies s at (Some l) = applies_slot l at (st.slots s)

  passes : (o : Option Loaded) → Leaves Never st (pass_loaded st o)
  passes None = plainly Never 13
  passes (Some l) = tt

  evaluates_so : (x : Evaluated) → Leaves Never st (evaluate_answer st x)
  evaluates_so (Evaluated.evaluated o) = tt
  evaluates_so (unevaluated k) = plainly Never k

  evaluates : (ins cs : List ℕ) (o : Option Loaded) → Leaves Never st (evaluate_loaded m st ins cs o)
  evaluates ins cs None = plainly Never 13
  evaluates ins cs (Some l) = evaluates_so (evaluation m l.program ins cs)

-- what may be refuted by a call
abbrev Refuting : State → Call → Fault → State → Type 0
Refuting st (Call.draft t) = Never
Refuting st (Call.load t) = Never
Refuting st (Call.check s) = Frees st s
Refuting st (Call.withdraw s) = Never
Refuting st (Call.strike s) = Never
Refuting st (Call.apply s at) = Never
Refuting st Call.pass = Never
Refuting st (Call.evaluate ins cs) = Never

leaves : (m : Model) (st : State) (c : Call) → Leaves (Refuting st c) st (call m st c)
leaves m st (Call.draft t) = drafts m st t (read_rule m t) refl
leaves m st (Call.load t) = loads m st t (read_program m t) refl
leaves m st (Call.check s) = checks m st s (st.slots s) refl
leaves m st (Call.withdraw s) = withdraws m st s (st.slots s)
leaves m st (Call.strike s) = strikes m st s (st.slots s)
leaves m st (Call.apply s at) = applies m st s at st.loaded
leaves m st Call.pass = passes m st st.loaded
leaves m st (Call.evaluate ins cs) = evaluates m st ins cs st.loaded

refutes : (m : Model) (st : State) (c : Call) (f : Fault) → Refuting st c f (next m st c) → RefutesDraft m st c f
refutes m st (Call.draft t) f h = absurd h
refutes m st (Call.load t) f h = absurd h
refutes m st (Call.check s) f h = let (r, held, told, freed) = h in record { slot = s; rule = r; checked = refl; held = held; told = told; freed = freed }
refutes m st (Call.withdraw s) f h = absurd h
refutes m st (Call.strike s) f h = absurd h
refutes m st (Call.apply s at) f h = absurd h
refutes m st Call.pass f h = absurd h
refutes m st (Call.evaluate ins cs) f h = absurd h

pub refusals : (m : Model) → Refusals m
refusals m = record {
  refused = λ st c f e.
      let (same, right) = subst (λ a. Says (Refuting st c) st a (next m st c)) e (leaves m st c) in
      record { unchanged = same; layer = right.0; no_line = right.1 };
  refuted = λ st c f at e. refutes m st c f (subst (λ a. Says (Refuting st c) st a (next m st c)) e (leaves m st c));
}
