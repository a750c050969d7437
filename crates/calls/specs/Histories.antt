-- What any list of calls keeps, and what checking is worth. Assumes nothing.
use Rattle.std.specs.Prelude.{◌≡◌, ℕ, ◌≤◌, ◌⊎◌, ◌↔◌, List, [], ◌∷◌, ◌++◌, length, Some, None, Option}
use Rattle.domain.specs.Model.{Model, OutcomeRefines, Outcome}
use Rattle.semantics.specs.Programs.{Program, Formed, Refines, Inputs, Choices, outcome}
use Rattle.semantics.specs.Rules.{Rule, Match, Fits, Fresh, rewritten, ConvictedAt}
use Rattle.semantics.specs.Cases.{from, Case, FirstRefutes}
use Rattle.semantics.specs.Changes.{Loaded}
use Rattle.text.specs.Faults.{fault, Read, accepted, refused}
use Rattle.text.specs.ProgramTexts.{read_program}
use Rattle.calls.specs.Bench.{State, Slot, empty, Call, Answer, evaluated, refuted, call}

-- a fresh bench: all slots free and rising
abbrev pub fresh : State
fresh = record { slots = λ s. empty; free = from 1 32; book = []; loaded = None }

-- the answer of a call, and the state after it
abbrev pub answer : Model → State → Call → Answer
answer m st c = (call m st c).0

abbrev pub next : Model → State → Call → State
next m st c = (call m st c).1

abbrev pub after_from : Model → State → List Call → State
after_from m st [] = st
after_from m st (c ∷ cs) = after_from m (next m st c) cs

-- the state after a list of calls on a fresh bench
abbrev pub after : Model → List Call → State
after m calls = after_from m fresh calls

abbrev pub or_former : Read Program → Option Program → Option Program
or_former (accepted p) former = Some p
or_former (refused f) former = former

abbrev pub loaded_by : Model → Call → Option Program → Option Program
loaded_by m (Call.draft t) former = former
loaded_by m (Call.load t) former = or_former (read_program m t) former
loaded_by m (Call.check s) former = former
loaded_by m (Call.withdraw s) former = former
loaded_by m (Call.strike s) former = former
loaded_by m (Call.apply s at) former = former
loaded_by m Call.pass former = former
loaded_by m (Call.evaluate ins cs) former = former

abbrev pub loaded_from : Model → Option Program → List Call → Option Program
loaded_from m former [] = former
loaded_from m former (c ∷ cs) = loaded_from m (loaded_by m c former) cs

-- the program of the latest accepted load
abbrev pub last_loaded : Model → List Call → Option Program
last_loaded m calls = loaded_from m None calls

-- the present program refines the last loaded one, where there is one
abbrev pub Refining : Model → Option Loaded → Option Program → Type 0
Refining m None None = Unit {0}
Refining m None (Some p) = ⊥
Refining m (Some l) None = ⊥
Refining m (Some l) (Some p) = Refines m l.program p

-- an outcome refines one of the last loaded program for these inputs
abbrev pub RefinesOne : Model → Outcome → List ℕ → Option Program → Type 0
RefinesOne m o ins None = ⊥
RefinesOne m o ins (Some p) = Inputs m p ins × ((ds : List ℕ) × Choices m p ds × OutcomeRefines m o (outcome m p ins ds))

-- any list of calls keeps what was loaded
pub record Keeps (m : Model) (calls : List Call) : Type 0 where
  pub present : Refining m (after m calls).loaded (last_loaded m calls)
  pub evaluates : (ins cs : List ℕ) (o : Outcome) → answer m (after m calls) (Call.evaluate ins cs) ≡ evaluated o → RefinesOne m o ins (last_loaded m calls)

abbrev pub Kept : Model → Type 0
Kept m = (calls : List Call) → Keeps m calls

-- a rule is sound: wherever it fits and 64 instructions suffice, the rewritten program refines the former
abbrev pub Sound : Model → Rule → Type 0
Sound m r =
    (p : Program) → Formed m p → (at : ℕ) (w : Match) → Fits p r at w → (new : List ℕ) → Fresh p r at w new →
    length (rewritten p r at w new).body ≤ 64 → Refines m (rewritten p r at w new) p

-- a check entered the draft's rule last in the book under its slot's number
pub record Enters (m : Model) (st : State) (s : ℕ) (r : Rule) : Type 0 where
  pub answers : answer m st (Call.check s) ≡ Answer.entered s
  pub slot : (next m st (Call.check s)).slots s ≡ Slot.entered r
  pub last : (next m st (Call.check s)).book ≡ st.book ++ (s ∷ [])

-- a check refuted it at a case
abbrev pub RefutedAt : Model → State → ℕ → Case → Type 0
RefutedAt m st s c = answer m st (Call.check s) ≡ refuted (fault 11 0) c

pub record Checks (m : Model) (st : State) (s : ℕ) (r : Rule) : Type 0 where
  pub exactly : Enters m st s r ↔ Sound m r
  pub either : Enters m st s r ⊎ ((c : Case) × RefutedAt m st s c)
  pub refuted : (c : Case) → RefutedAt m st s c → FirstRefutes m r c × ConvictedAt m r c.vars c.choices

abbrev pub EntersExactly : Model → Type 0
EntersExactly m = (calls : List Call) (s : ℕ) (r : Rule) → (after m calls).slots s ≡ Slot.draft r → Checks m (after m calls) s r

-- one more call goes on from where the others led
pub record GoesOn (m : Model) (calls : List Call) (c : Call) : Type 0 where
  pub state : after m (calls ++ (c ∷ [])) ≡ next m (after m calls) c
  pub loaded : last_loaded m (calls ++ (c ∷ [])) ≡ loaded_by m c (last_loaded m calls)

abbrev pub OneMore : Model → Type 0
OneMore m = (calls : List Call) (c : Call) → GoesOn m calls c

-- a call that leads from one state to another keeps what was loaded, whatever list of calls led to the first
abbrev pub Promised : Model → State → Call → State → Type 0
Promised m st c st2 = (calls : List Call) → st ≡ after m calls → (st2 ≡ after m (calls ++ (c ∷ []))) × Keeps m (calls ++ (c ∷ []))

-- an outcome answered in a state refines one of the last loaded program for these inputs
abbrev pub AnswersForLoaded : Model → State → List ℕ → Outcome → Type 0
AnswersForLoaded m st ins o = (calls : List Call) → st ≡ after m calls → RefinesOne m o ins (last_loaded m calls)
