-- A program and a rule written as texts, and that reading gives them back. Assumes nothing.
use Rattle.std.specs.Prelude.{◌≡◌, ℕ, suc, ◌-◌, cond, List, [], ◌∷◌, ◌++◌, map, length, codes, decimal, ◌==◌}
use Rattle.semantics.specs.declared.Operand.{Operand}
use Rattle.semantics.specs.declared.Operand.TheVariants.{Input, Record, Constant}
use Rattle.semantics.specs.declared.Instruction.{Instruction}
use Rattle.domain.specs.Model.{Model}
use Rattle.semantics.specs.Programs.{Placed, Program, reads}
use Rattle.semantics.specs.Rules.{Rule, numbered}
use Rattle.semantics.specs.Cases.{from}
use Rattle.scan.specs.Pieces.{Bytes}
use Rattle.vocabulary.specs.Names.{name_of}
use Rattle.text.specs.Faults.{accepted}
use Rattle.text.specs.ProgramTexts.{read_program}
use Rattle.text.specs.Neat.{written_marks}
use Rattle.text.specs.RuleTexts.{read_rule}
use Rattle.text.specs.Accepted.{ProgramSaid, RuleSaid}

-- one space between words
abbrev pub spaced : List Bytes → Bytes
spaced [] = []
spaced (w ∷ []) = w
spaced (w ∷ v ∷ ws) = w ++ 32 ∷ spaced (v ∷ ws)

-- every line ended by byte 10
abbrev pub text_of : List (List Bytes) → Bytes
text_of [] = []
text_of (ws ∷ ls) = spaced ws ++ 10 ∷ text_of ls

-- inputs and variables are i1, i2, …
abbrev pub input_name : ℕ → Bytes
input_name k = 105 ∷ decimal (suc k)

-- instructions of a program are r1, r2, … by their records
abbrev pub record_name : ℕ → Bytes
record_name r = 114 ∷ decimal r

-- instructions of a rule's side with n of them are counted from the last, r0, which both sides have
abbrev pub side_name : ℕ → ℕ → Bytes
side_name n j = 114 ∷ decimal (n - j)

-- names with `%`, constants with `#`, where f names instructions
abbrev pub operand_word : (ℕ → Bytes) → Operand → Bytes
operand_word f (Input k) = 37 ∷ input_name k
operand_word f (Record r) = 37 ∷ f r
operand_word f (Constant c) = 35 ∷ decimal c

abbrev pub mark_word : ℕ → Bytes
mark_word x = cond (x == 1) (codes "nuw") (cond (x == 2) (codes "nsw") (codes "exact"))

-- `= OP marks operands`
abbrev pub behind_name : (ℕ → Bytes) → Instruction → List Bytes
behind_name f i = codes "=" ∷ name_of i.operation ∷ (map mark_word (written_marks i.operation i.marks.bits) ++ map (operand_word f) (reads i))

abbrev pub instruction_words : (ℕ → Bytes) → Placed → List Bytes
instruction_words f x = (37 ∷ f x.at) ∷ behind_name f x.what

abbrev pub lines_of : (ℕ → Bytes) → List Placed → List (List Bytes)
lines_of f xs = map (instruction_words f) xs

abbrev pub in_words : ℕ → List Bytes
in_words n = codes "in" ∷ map (λ k. 37 ∷ input_name k) (from 0 n)

abbrev pub ret_words : ℕ → List Bytes
ret_words r = codes "ret" ∷ (37 ∷ record_name r) ∷ []

abbrev pub write_program : Program → Bytes
write_program p = text_of (in_words p.inputs ∷ (lines_of record_name p.body ++ ret_words p.result ∷ []))

abbrev pub side_lines : List Instruction → List (List Bytes)
side_lines is = lines_of (side_name (length is)) (numbered 1 is)

abbrev pub write_rule : Rule → Bytes
write_rule r = text_of ((codes "rule" ∷ codes "t" ∷ []) ∷ (side_lines r.source ++ (codes "=>" ∷ []) ∷ (side_lines r.target ++ (codes "end" ∷ []) ∷ [])))

-- reading what was written gives the program or the rule again
abbrev pub ProgramsReadBack : Model → Type 0
ProgramsReadBack m = (p : Program) → ProgramSaid m p → read_program m (write_program p) ≡ accepted p

abbrev pub RulesReadBack : Model → Type 0
RulesReadBack m = (r : Rule) → RuleSaid m r → read_rule m (write_rule r) ≡ accepted r
