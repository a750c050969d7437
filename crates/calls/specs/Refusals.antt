-- What a refusal leaves and tells. Assumes nothing.
use Rattle.std.specs.Prelude.{◌≡◌, ℕ, ◌<◌, ◌⊎◌}
use Rattle.domain.specs.Model.{Model}
use Rattle.semantics.specs.Rules.{Rule}
use Rattle.semantics.specs.Cases.{Case}
use Rattle.text.specs.Faults.{Fault, fault, layer_of}
use Rattle.calls.specs.Bench.{Slot, State, Call, Answer, freed_slot}
use Rattle.calls.specs.Histories.{answer, next}

-- all is left unchanged, the layer goes by the number, and the line is 0 outside 2 to 7
pub record Refuses (m : Model) (st : State) (c : Call) (f : Fault) : Type 0 where
  pub unchanged : next m st c ≡ st
  pub layer : f.layer ≡ layer_of f.number
  pub no_line : (f.number < 2) ⊎ (7 < f.number) → f.line ≡ 0

-- a rule is refuted under 11 by the check of its draft, which ends the draft and frees its slot
pub record RefutesDraft (m : Model) (st : State) (c : Call) (f : Fault) : Type 0 where
  pub slot : ℕ
  pub rule : Rule
  pub checked : c ≡ Call.check slot
  pub held : st.slots slot ≡ Slot.draft rule
  pub told : f ≡ fault 11 0
  pub freed : next m st c ≡ freed_slot st slot st.book

pub record Refusals (m : Model) : Type 0 where
  pub refused : (st : State) (c : Call) (f : Fault) → answer m st c ≡ Answer.refused f → Refuses m st c f
  pub refuted : (st : State) (c : Call) (f : Fault) (at : Case) → answer m st c ≡ Answer.refuted f at → RefutesDraft m st c f
