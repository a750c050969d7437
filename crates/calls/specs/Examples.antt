-- The worked examples at width 4: values, one instruction, one rule, a list of calls. Assumes nothing.
use Rattle.std.specs.Prelude.{◌≡◌, ℕ, List, [], ◌∷◌, Some, codes, Ok}
use Rattle.vocabulary.specs.declared.operation.Operation.{Operation}
use Rattle.vocabulary.specs.declared.operation.Operation.TheVariants.{Add, Freeze, Select}
use Rattle.pile.specs.Examples.{Examples, house}
use Rattle.semantics.specs.declared.Operand.{Operand}
use Rattle.semantics.specs.declared.Operand.TheVariants.{Input, Record, Constant}
use Rattle.semantics.specs.Programs.{value, nothing_yet, step}
use Rattle.semantics.specs.Cases.{from}
use Rattle.semantics.specs.Changes.{Loaded}
use Rattle.scan.specs.Pieces.{Bytes}
use Rattle.text.specs.Faults.{fault}
use Rattle.text.specs.Instructions.{made}
use Rattle.calls.specs.Bench.{Call, Answer, drafted, evaluated, refuted}
use Rattle.calls.specs.Histories.{after, answer}
use Rattle.domain.specs.Model.{Outcome}

-- one instruction on constants in the house pile, with a choice
abbrev pub given : Operation → List Operand → ℕ → Outcome
given op os choice = step house (value [] nothing_yet) (made op 0 os) choice

-- the double minus, marked and unmarked
abbrev pub marked : Bytes
marked = codes "rule minus\n%a = sub 0, %y\n%r = sub %x, %a\n=>\n%r = add nsw %x, %y\nend\n"

abbrev pub unmarked : Bytes
unmarked = codes "rule minus\n%a = sub 0, %y\n%r = sub %x, %a\n=>\n%r = add %x, %y\nend\n"

-- a program in which it fits at record 3
abbrev pub program : Bytes
program = codes "in %x, %y\n%s = add %x, %y\n%n = sub 0, %s\n%d = sub %x, %n\n%r = add %d, %d\nret %r\n"

-- two drafts, of which the first is withdrawn, and the second is entered and applied
abbrev pub calls : List Call
calls = Call.draft marked ∷ Call.draft unmarked ∷ Call.withdraw 1 ∷ Call.check 2 ∷ Call.load program ∷ Call.apply 2 3 ∷ []

-- the program after them: the match's record is free again and the first to be taken
abbrev pub rewritten : Loaded
rewritten = record {
  program = record {
    inputs = 2;
    body = record { at = 1; what = made Add 0 (Input 0 ∷ Input 1 ∷ []) } ∷ record { at = 3; what = made Add 0 (Input 0 ∷ Record 1 ∷ []) } ∷ record { at = 4; what = made Add 0 (Record 3 ∷ Record 3 ∷ []) } ∷ [];
    result = 4;
  };
  free = 2 ∷ from 5 60;
}

pub record Worked : Type 0 where
  pub values : Examples
  -- poison as a condition gives worst, which is poison; a frozen poison is what was chosen
  pub select_poison : given Select (Constant 16 ∷ Constant 3 ∷ Constant 4 ∷ []) 0 ≡ Ok 16
  pub freeze_poison : given Freeze (Constant 16 ∷ []) 5 ≡ Ok 5
  -- the double minus with nsw is refuted at y = 1, x = 7, and enters without
  pub marked_refuted : answer house (after house (Call.draft marked ∷ [])) (Call.check 1) ≡ refuted (fault 11 0) (record { vars = 1 ∷ 7 ∷ []; choices = [] })
  pub unmarked_enters : answer house (after house (Call.draft unmarked ∷ [])) (Call.check 1) ≡ Answer.entered 1
  pub rewrites : (after house calls).loaded ≡ Some rewritten
  -- 3 and 4 give 2 × (3 + 7) modulo 16
  pub evaluates : answer house (after house calls) (Call.evaluate (3 ∷ 4 ∷ []) []) ≡ evaluated (Ok 4)
  -- the slot freed last is taken first
  pub next_slot : answer house (after house calls) (Call.draft unmarked) ≡ drafted 1
