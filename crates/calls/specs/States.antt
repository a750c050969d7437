-- What holds of every state that calls lead to: each slot is in one place, and every rule and program is proper. Assumes nothing.
use Rattle.std.specs.Prelude.{◌≡◌, ℕ, ◌≤◌, T, ◌⊎◌, ◌↔◌, List, Some, None, Option}
use Rattle.domain.specs.Model.{Model}
use Rattle.semantics.specs.Programs.{Refines, has}
use Rattle.semantics.specs.Rules.{Rule, Distinct, source_of, target_of}
use Rattle.semantics.specs.Changes.{Loaded, ProperProgram}
use Rattle.text.specs.Accepted.{RuleSaid}
use Rattle.calls.specs.Bench.{Slot, empty, State, Call}
use Rattle.calls.specs.Histories.{fresh, next, after}

abbrev pub ProperLoaded : Model → Option Loaded → Type 0
ProperLoaded m None = Unit {0}
ProperLoaded m (Some l) = ProperProgram m l

-- a rule that was entered
pub record ProperEntry (m : Model) (r : Rule) : Type 0 where
  pub said : RuleSaid m r
  pub refines : Refines m (target_of r) (source_of r)

-- a slot from 1 to 32 is free exactly when it is empty, and in the book exactly when its rule is entered; no other slot holds anything
pub record Proper (m : Model) (st : State) : Type 0 where
  pub free_distinct : Distinct st.free
  pub free : (s : ℕ) → T (has s st.free) ↔ ((1 ≤ s) × (s ≤ 32) × (st.slots s ≡ empty))
  pub book_distinct : Distinct st.book
  pub book : (s : ℕ) → T (has s st.book) ↔ ((r : Rule) × (st.slots s ≡ Slot.entered r))
  pub numbers : (s : ℕ) → (st.slots s ≡ empty) ⊎ ((1 ≤ s) × (s ≤ 32))
  pub drafts : (s : ℕ) (r : Rule) → st.slots s ≡ Slot.draft r → RuleSaid m r
  pub entries : (s : ℕ) (r : Rule) → st.slots s ≡ Slot.entered r → ProperEntry m r
  pub program : ProperLoaded m st.loaded

abbrev pub StartsProper : Model → Type 0
StartsProper m = Proper m fresh

-- each call keeps it
abbrev pub StaysProper : Model → Type 0
StaysProper m = (st : State) → Proper m st → (c : Call) → Proper m (next m st c)

-- so it holds after any list of calls
abbrev pub ReachedProper : Model → Type 0
ReachedProper m = (calls : List Call) → Proper m (after m calls)
