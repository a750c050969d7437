-- What a refusal tells: number, layer, and the line, which is 0 outside 2 to 7; which line, and which of its faults. Assumes nothing.
use Rattle.std.specs.Prelude.{◌≡◌, ℕ, suc, ◌<◌, ◌≤◌, Bool, T, ◌↔◌, List, length, Some, None, Option, ◌≢◌, nat_lt}
use Rattle.domain.specs.Model.{Model}
use Rattle.scan.specs.Pieces.{Bytes, lines}
use Rattle.text.specs.Forms.{Written}
use Rattle.text.specs.Faults.{Fault, fault, refused, layer_of}
use Rattle.text.specs.Instructions.{Names, number_outside, name_wrong, bad_marks, code_missing, instruction_fault}
use Rattle.text.specs.Lines.{FirstFaulty}
use Rattle.text.specs.RuleTexts as R
use Rattle.text.specs.RuleTexts.{read_rule}
use Rattle.text.specs.ProgramTexts as P
use Rattle.text.specs.ProgramTexts.{read_program}

-- a refusal of a text by a reader whose last fault number is `last`
pub record Told (last : ℕ) (text : Bytes) (f : Fault) : Type 0 where
  pub least : 1 ≤ f.number
  pub most : f.number ≤ last
  pub layer : f.layer ≡ layer_of f.number
  -- 1 exactly for a text over 4,096 bytes
  pub too_long : f.number ≡ 1 → 4096 < length text
  pub long : 4096 < length text → f.number ≡ 1
  -- 2 to 7 in a line of the text, or in the line after the last
  pub in_line : 2 ≤ f.number → f.number ≤ 7 → (1 ≤ f.line) × (f.line ≤ suc (length (lines text)))
  pub no_line_before : f.number < 2 → f.line ≡ 0
  pub no_line_behind : 7 < f.number → f.line ≡ 0

abbrev pub RulesTold : Model → Type 0
RulesTold m = (text : Bytes) (f : Fault) → read_rule m text ≡ refused f → Told 9 text f

abbrev pub ProgramsTold : Model → Type 0
ProgramsTold m = (text : Bytes) (f : Fault) → read_program m text ≡ refused f → Told 7 text f

-- Which line: the first at fault, or the line after the last where more had to follow.

abbrev pub RulesFirstLine : Model → Type 0
RulesFirstLine m =
    (text : Bytes) → length text ≤ 4096 → (k n : ℕ) →
    ((2 ≤ k) × (k ≤ 7) × (read_rule m text ≡ refused (fault k n))) ↔ FirstFaulty (R.rule_step m) (λ s. s.section ≢ R.at_end) R.nothing_read (lines text) k n

abbrev pub ProgramsFirstLine : Model → Type 0
ProgramsFirstLine m =
    (text : Bytes) → length text ≤ 4096 → (k n : ℕ) →
    ((2 ≤ k) × (k ≤ 7) × (read_program m text ≡ refused (fault k n))) ↔ FirstFaulty (P.program_step m) (λ s. s.section ≢ P.at_end) P.nothing_read (lines text) k n

-- Which fault of the line: the one with the smallest number.

-- each fault of an instruction line for itself
pub data Faulty (m : Model) (too_many : Bool) (ns : Names) (w : Written) : ℕ → Type 0 where
  number_fault : T (number_outside w) → Faulty m too_many ns w 3
  count_fault : T too_many → Faulty m too_many ns w 4
  name_fault : T (name_wrong ns w) → Faulty m too_many ns w 5
  mark_fault : T (bad_marks w.operation w.marks) → Faulty m too_many ns w 6
  code_fault : T (code_missing m w) → Faulty m too_many ns w 7

-- each fault of an `in` line for itself
pub data InputsFaulty (ns : List Bytes) : ℕ → Type 0 where
  ninth_input : T (nat_lt 8 (length ns)) → InputsFaulty ns 4
  input_twice : T (P.twice ns) → InputsFaulty ns 5

-- k has a property, and no smaller number has it
abbrev pub Least : (ℕ → Type 0) → ℕ → Type 0
Least P k = P k × ((j : ℕ) → j < k → P j → ⊥)

-- the least number with a property, or none where no number has it
pub record Smallest (P : ℕ → Type 0) (o : Option ℕ) : Type 0 where
  pub some : (k : ℕ) → (o ≡ Some k) ↔ Least P k
  pub none : (o ≡ None) ↔ ((k : ℕ) → P k → ⊥)

pub record SmallestTold (m : Model) : Type 0 where
  pub instructions : (too_many : Bool) (ns : Names) (w : Written) → Smallest (Faulty m too_many ns w) (instruction_fault m too_many ns w)
  pub inputs : (ns : List Bytes) → Smallest (InputsFaulty ns) (P.inputs_fault ns)
