-- What the eight calls of a bench answer and do. Assumes nothing.
use Rattle.std.specs.Prelude.{ℕ, cond, List, [], ◌∷◌, ◌++◌, Some, None, Option, ◌==◌}
use Rattle.domain.specs.Model.{Model, Outcome}
use Rattle.semantics.specs.Programs.{Program, Evaluated, unevaluated, evaluation, without}
use Rattle.semantics.specs.Rules.{Rule}
use Rattle.semantics.specs.Cases.{Case, first_refuting}
use Rattle.semantics.specs.Changes.{Loaded, Changed, changed, unchanged, as_loaded, rewrite_at, whole_pass}
use Rattle.scan.specs.Pieces.{Bytes}
use Rattle.text.specs.Faults.{Fault, fault, Read, accepted}
use Rattle.text.specs.RuleTexts.{read_rule}
use Rattle.text.specs.ProgramTexts.{read_program}

-- The state.

pub data Slot : Type 0 where
  empty : Slot
  draft entered : Rule → Slot

-- the slots by their number, the free ones, the first to be taken first, and those of the book in order
pub record State : Type 0 where
  pub slots : ℕ → Slot
  pub free : List ℕ
  pub book : List ℕ
  pub loaded : Option Loaded

-- a draft goes by its slot, a rule of the book by its number, which is its slot
pub data Call : Type 0 where
  draft load : Bytes → Call
  check withdraw strike : ℕ → Call
  apply : ℕ → ℕ → Call
  pass : Call
  evaluate : List ℕ → List ℕ → Call

pub data Answer : Type 0 where
  drafted entered : ℕ → Answer
  withdrawn struck loaded applied : Answer
  passed : ℕ → Answer
  evaluated : Outcome → Answer
  refused : Fault → Answer
  -- with the first refuting case
  refuted : Fault → Case → Answer

-- a refusal that is at no line
abbrev pub refuse : State → ℕ → Answer × State
refuse st k = (Answer.refused (fault k 0), st)

-- Slots.

abbrev pub set_slot : (ℕ → Slot) → ℕ → Slot → ℕ → Slot
set_slot f s x k = cond (k == s) x (f k)

-- a slot freed last is taken first
abbrev pub freed_slot : State → ℕ → List ℕ → State
freed_slot st s left = record { slots = set_slot st.slots s empty; free = s ∷ st.free; book = left; loaded = st.loaded }

abbrev pub take_slot : State → Rule → List ℕ → Answer × State
take_slot st r [] = refuse st 10
take_slot st r (s ∷ ss) = (drafted s, record { slots = set_slot st.slots s (draft r); free = ss; book = st.book; loaded = st.loaded })

abbrev pub draft_read : State → Read Rule → Answer × State
draft_read st (accepted r) = take_slot st r st.free
draft_read st (Read.refused f) = (Answer.refused f, st)

abbrev pub check_found : State → ℕ → Rule → Option Case → Answer × State
check_found st s r None = (entered s, record { slots = set_slot st.slots s (entered r); free = st.free; book = st.book ++ (s ∷ []); loaded = st.loaded })
check_found st s r (Some c) = (refuted (fault 11 0) c, freed_slot st s st.book)

abbrev pub check_slot : Model → State → ℕ → Slot → Answer × State
check_slot m st s empty = refuse st 12
check_slot m st s (draft r) = check_found st s r (first_refuting m r)
check_slot m st s (entered r) = refuse st 12

abbrev pub withdraw_slot : State → ℕ → Slot → Answer × State
withdraw_slot st s empty = refuse st 12
withdraw_slot st s (draft r) = (withdrawn, freed_slot st s st.book)
withdraw_slot st s (entered r) = refuse st 12

abbrev pub strike_slot : State → ℕ → Slot → Answer × State
strike_slot st s empty = refuse st 14
strike_slot st s (draft r) = refuse st 14
strike_slot st s (entered r) = (struck, freed_slot st s (without s st.book))

-- The present program.

abbrev pub with_loaded : State → Loaded → State
with_loaded st l = record { slots = st.slots; free = st.free; book = st.book; loaded = Some l }

abbrev pub load_read : State → Read Program → Answer × State
load_read st (accepted p) = (loaded, with_loaded st (as_loaded p))
load_read st (Read.refused f) = (Answer.refused f, st)

abbrev pub apply_changed : State → Changed → Answer × State
apply_changed st (changed l) = (applied, with_loaded st l)
apply_changed st (unchanged k) = refuse st k

abbrev pub apply_slot : State → Loaded → ℕ → Slot → Answer × State
apply_slot st l at empty = refuse st 14
apply_slot st l at (draft r) = refuse st 14
apply_slot st l at (entered r) = apply_changed st (rewrite_at l r at)

abbrev pub apply_loaded : State → ℕ → ℕ → Option Loaded → Answer × State
apply_loaded st s at None = refuse st 13
apply_loaded st s at (Some l) = apply_slot st l at (st.slots s)

-- the rules of the book in order
abbrev pub rule_in : Slot → List Rule
rule_in empty = []
rule_in (draft r) = []
rule_in (entered r) = r ∷ []

abbrev pub rules : (ℕ → Slot) → List ℕ → List Rule
rules f [] = []
rules f (s ∷ ss) = rule_in (f s) ++ rules f ss

abbrev pub pass_loaded : State → Option Loaded → Answer × State
pass_loaded st None = refuse st 13
pass_loaded st (Some l) =
    let end = whole_pass (rules st.slots st.book) l in
    (passed end.count, with_loaded st end.now)

abbrev pub evaluate_answer : State → Evaluated → Answer × State
evaluate_answer st (Evaluated.evaluated o) = (Answer.evaluated o, st)
evaluate_answer st (unevaluated k) = refuse st k

abbrev pub evaluate_loaded : Model → State → List ℕ → List ℕ → Option Loaded → Answer × State
evaluate_loaded m st ins cs None = refuse st 13
evaluate_loaded m st ins cs (Some l) = evaluate_answer st (evaluation m l.program ins cs)

-- The calls.

abbrev pub call : Model → State → Call → Answer × State
call m st (draft t) = draft_read st (read_rule m t)
call m st (load t) = load_read st (read_program m t)
call m st (check s) = check_slot m st s (st.slots s)
call m st (withdraw s) = withdraw_slot st s (st.slots s)
call m st (strike s) = strike_slot st s (st.slots s)
call m st (apply s at) = apply_loaded st s at st.loaded
call m st pass = pass_loaded st st.loaded
call m st (evaluate ins cs) = evaluate_loaded m st ins cs st.loaded
