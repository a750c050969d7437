-- What is accepted is well made, and says no more than a text can say. Assumes nothing.
use Rattle.std.specs.Prelude.{◌≡◌, ℕ, suc, ◌≤◌, max, List, [], ◌∷◌, ◌++◌, length}
use Rattle.semantics.specs.declared.Operand.{Operand}
use Rattle.semantics.specs.declared.Operand.TheVariants.{Input, Record, Constant}
use Rattle.semantics.specs.declared.Instruction.{Instruction}
use Rattle.domain.specs.Model.{Model}
use Rattle.semantics.specs.Programs.{Program, Formed, All, reads, records}
use Rattle.semantics.specs.Rules.{Rule, WellMade}
use Rattle.scan.specs.Pieces.{Bytes}
use Rattle.text.specs.Faults.{accepted}
use Rattle.text.specs.Neat.{Neat}
use Rattle.semantics.specs.Cases.{from, case_number}
use Rattle.text.specs.RuleTexts.{read_rule}
use Rattle.text.specs.ProgramTexts.{read_program}

-- the operands of some instructions, in the order in which they are written
abbrev pub operands : List Instruction → List Operand
operands [] = []
operands (i ∷ is) = reads i ++ operands is

-- variables are numbered by first appearance: each is one of those seen before, or the next
abbrev pub InTurn : ℕ → List Operand → Type 0
InTurn seen [] = Unit {0}
InTurn seen (Input v ∷ os) = (v ≤ seen) × InTurn (max seen (suc v)) os
InTurn seen (Record r ∷ os) = InTurn seen os
InTurn seen (Constant c ∷ os) = InTurn seen os

-- what the text of a rule can say
pub record RuleSaid (m : Model) (r : Rule) : Type 0 where
  pub made : WellMade m r
  pub cases : case_number m r ≤ 100000000
  pub in_turn : InTurn 0 (operands r.source)
  pub source_neat : All Neat r.source
  pub target_neat : All Neat r.target

abbrev pub RulesWellMade : Model → Type 0
RulesWellMade m = (text : Bytes) (r : Rule) → read_rule m text ≡ accepted r → RuleSaid m r

-- what the text of a program can say: the instructions stand in records 1, 2, 3, …
pub record ProgramSaid (m : Model) (p : Program) : Type 0 where
  pub formed : Formed m p
  pub in_order : records p.body ≡ from 1 (length p.body)
  pub neat : All (λ x. Neat x.what) p.body

abbrev pub ProgramsFormed : Model → Type 0
ProgramsFormed m = (text : Bytes) (p : Program) → read_program m text ≡ accepted p → ProgramSaid m p
