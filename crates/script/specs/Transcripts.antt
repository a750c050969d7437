-- What a script does, item by item, and all that is printed for it. Assumes nothing.
use Rattle.std.specs.Prelude.{ℕ, Bool, cond, ◌&&◌, List, [], ◌∷◌, ◌++◌, Some, None, Ok, Err, codes, decimal, Option, Result, nat_le}
use Rattle.std.specs.Option.{option_map}
use Rattle.vocabulary.specs.declared.marks.Marks.{Marks}
use Rattle.domain.specs.Faults.{fault_number}
use Rattle.domain.specs.Model.{Model, Outcome}
use Rattle.pile.specs.declared.Blueprint.{Blueprint}
use Rattle.pile.specs.Piles.{pile_model, blueprint_model}
use Rattle.scan.specs.Pieces.{Bytes}
use Rattle.text.specs.Faults.{Fault, fault}
use Rattle.calls.specs.Bench.{State, Call, Answer as CallAnswer}
use Rattle.calls.specs.Histories.{fresh, answer, next}
use Rattle.bench.specs.Faults.{bench_fault}
use Rattle.bench.specs.States.{state}
use Rattle.script.specs.declared.answer.Answer.{Answer}
use Rattle.script.specs.declared.answer.Answer.TheVariants.{Bench, Computed, Loaded, Evaluated, Shown}
use Rattle.script.specs.declared.answer.Refusal.{Refusal}
use Rattle.script.specs.declared.answer.Refusal.TheVariants.{NoBench, Refused, ScriptError}
use Rattle.script.specs.declared.command.Computation.{Computation}
use Rattle.script.specs.declared.interpreter.Interpreter.{Interpreter}
use Rattle.script.specs.Lines.{Order, bench, compute, evaluate, load, show, Ordered, skipped, unreadable, obeyed}
use Rattle.script.specs.Answers.{computed_text, call_text, fault_text}
use Rattle.script.specs.Shows.{show_text}
use Rattle.script.specs.Items.{Item, items}

-- the current bench: its domain, and its state
pub record Held : Type 0 where
  pub model : Model
  pub state : State

abbrev pub Current : Type 0
Current = Option Held

abbrev pub view : Interpreter → Current
view i = option_map (λ b. record { model = pile_model b.domain; state = state b }) i.bench

-- what a line is answered
pub data Told : Type 0 where
  made : ℕ → Told
  computed : Outcome → Marks → Told
  called : CallAnswer → Told
  shown : State → Told
  no_bench : Fault → Told
  script_error : ℕ → Told

-- what `show` finds, which before any bench is never asked
abbrev pub present : Current → State
present None = fresh
present (Some h) = h.state

-- why a line is not obeyed
abbrev pub refusal_seen : Refusal → Told
refusal_seen (NoBench f) = no_bench (fault (fault_number f) 0)
refusal_seen (Refused f) = called (CallAnswer.refused (bench_fault f))
refusal_seen (ScriptError line) = script_error line

-- an answer, where `show` finds a state
abbrev pub answer_seen : State → Result Answer Refusal → Told
answer_seen st (Ok (Bench size)) = made size
answer_seen st (Ok (Computed o broken)) = computed o broken
answer_seen st (Ok Loaded) = called CallAnswer.loaded
answer_seen st (Ok (Evaluated o)) = called (CallAnswer.evaluated o)
answer_seen st (Ok Shown) = shown st
answer_seen st (Err r) = refusal_seen r

abbrev pub told_text : Told → Bytes
told_text (made size) = codes "bench " ++ decimal size
told_text (computed o broken) = computed_text o broken
told_text (called a) = call_text a
told_text (shown st) = show_text st
told_text (no_bench f) = fault_text f
told_text (script_error line) = codes "script error " ++ decimal line

-- an answer, and the current bench after it
pub record Step (A : Type 0) : Type 0 where
  pub answer : A
  pub after : Current

-- a width is 1 to 8
abbrev pub width_fits : ℕ → Bool
width_fits w = nat_le 1 w && nat_le w 8

-- a refused bench keeps the former one
abbrev pub make_bench : Current → Blueprint → Step Told
make_bench s b =
    cond (width_fits b.width)
    (record { answer = made (blueprint_model b).size; after = Some (record { model = blueprint_model b; state = fresh }) })
    (record { answer = no_bench (fault 22 0); after = s })

abbrev pub compute_at : Current → ℕ → Computation → Told
compute_at None line c = script_error line
compute_at (Some h) line c = computed (h.model.compute c.operation c.marks.bits c.first c.second) (record { bits = h.model.broken c.operation c.first c.second })

-- a call of the current bench
abbrev pub call_at : Current → ℕ → Call → Step Told
call_at None line c = record { answer = script_error line; after = None }
call_at (Some h) line c = record { answer = called (answer h.model h.state c); after = Some (record { model = h.model; state = next h.model h.state c }) }

abbrev pub show_at : Current → ℕ → Told
show_at None line = script_error line
show_at (Some h) line = shown h.state

abbrev pub obey : Current → ℕ → Order → Bytes → Step Told
obey s line (bench b) text = make_bench s b
obey s line (compute c) text = record { answer = compute_at s line c; after = s }
obey s line load text = call_at s line (Call.load text)
obey s line (evaluate g) text = call_at s line (Call.evaluate g.inputs g.choices)
obey s line show text = record { answer = show_at s line; after = s }

abbrev pub answered : Step Told → Step (Option Told)
answered t = record { answer = Some t.answer; after = t.after }

abbrev pub step_of : Current → ℕ → Ordered → Bytes → Step (Option Told)
step_of s line skipped text = record { answer = None; after = s }
step_of s line unreadable text = record { answer = Some (script_error line); after = s }
step_of s line (obeyed o) text = answered (obey s line o text)

abbrev pub item_step : Current → Item → Step (Option Told)
item_step s i = step_of s i.line i.order i.text

abbrev pub printed : Option Told → Bytes
printed None = []
printed (Some a) = told_text a ++ (10 ∷ [])

abbrev pub transcript : Current → List Item → Bytes
transcript s [] = []
transcript s (i ∷ is) = printed (item_step s i).answer ++ transcript (item_step s i).after is

-- a script begins with no bench
abbrev pub output : Bytes → Bytes
output script = transcript None (items script)
