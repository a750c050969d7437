-- What the text of a program means. Assumes nothing.
use Rattle.std.specs.Prelude.{ℕ, suc, Bool, false, ◌||◌, List, [], ◌∷◌, length, Some, None, Option, nat_le, nat_lt}
use Rattle.domain.specs.Model.{Model}
use Rattle.semantics.specs.Programs.{Program}
use Rattle.semantics.specs.Rules.{numbered}
use Rattle.scan.specs.Pieces.{Bytes}
use Rattle.text.specs.Forms.{Form, Written, rule_line, arrow_line, end_line, in_line, ret_line, instruction_line}
use Rattle.text.specs.Faults.{Read, accepted, refused, Step, next, wrong, fault, first_of, unless, read}
use Rattle.text.specs.Instructions.{Named, Names, names_of, bodies, place, among, instruction_fault, entered}

-- where in the text a line stands
pub data Section : Type 0 where
  at_start in_body at_end : Section

-- what the lines so far say
pub record Reading : Type 0 where
  pub section : Section
  pub inputs : List Bytes
  pub body : List Named
  pub result : ℕ

abbrev pub twice : List Bytes → Bool
twice [] = false
twice (n ∷ ns) = among n ns || twice ns

-- `in`: one too many is the ninth name (4), and each may stand once (5)
abbrev pub inputs_fault : List Bytes → Option ℕ
inputs_fault ns = first_of (nat_lt 8 (length ns)) 4 (first_of (twice ns) 5 None)

abbrev pub inputs_line : Reading → List Bytes → Step Reading
inputs_line s ns = unless (inputs_fault ns) (record { section = in_body; inputs = ns; body = s.body; result = s.result })

-- an instruction reads inputs, constants and earlier instructions
abbrev pub body_names : Reading → Names
body_names s = record { variables = s.inputs; instructions = names_of s.body }

-- fault 4: the 65th instruction
abbrev pub body_too_many : Reading → Bool
body_too_many s = nat_le 64 (length s.body)

abbrev pub body_line : Model → Reading → Written → Step Reading
body_line m s w =
    unless (instruction_fault m (body_too_many s) (body_names s) w) (record {
      section = in_body;
      inputs = s.inputs;
      body = entered m (body_names s) w s.body;
      result = s.result;
    })

-- the result is an instruction; another name is not readable here (5)
abbrev pub result_at : Option ℕ → Reading → Step Reading
result_at (Some k) s = next (record { section = at_end; inputs = s.inputs; body = s.body; result = suc k })
result_at None s = wrong 5

-- `ret` without an instruction closes an empty part (2)
abbrev pub result_line : List Named → Reading → Bytes → Step Reading
result_line [] s n = wrong 2
result_line (x ∷ xs) s n = result_at (place n (names_of (x ∷ xs))) s

-- one line in its section; every other form is out of order there
abbrev pub in_order : Model → Section → Reading → Form → Step Reading
in_order m at_start s rule_line = wrong 2
in_order m at_start s arrow_line = wrong 2
in_order m at_start s end_line = wrong 2
in_order m at_start s (in_line ns) = inputs_line s ns
in_order m at_start s (ret_line n) = wrong 2
in_order m at_start s (instruction_line w) = wrong 2
in_order m in_body s rule_line = wrong 2
in_order m in_body s arrow_line = wrong 2
in_order m in_body s end_line = wrong 2
in_order m in_body s (in_line ns) = wrong 2
in_order m in_body s (ret_line n) = result_line s.body s n
in_order m in_body s (instruction_line w) = body_line m s w
in_order m at_end s rule_line = wrong 2
in_order m at_end s arrow_line = wrong 2
in_order m at_end s end_line = wrong 2
in_order m at_end s (in_line ns) = wrong 2
in_order m at_end s (ret_line n) = wrong 2
in_order m at_end s (instruction_line w) = wrong 2

abbrev pub program_step : Model → Reading → Form → Step Reading
program_step m s f = in_order m s.section s f

-- the program that the lines give, its instructions in records 1, 2, 3, …
abbrev pub program_of : Reading → Program
program_of s = record { inputs = length s.inputs; body = numbered 1 (bodies s.body); result = s.result }

-- a text that ends before `ret` is fault 2 at the line after the last
abbrev pub ended : Section → Reading → ℕ → Read Program
ended at_start s n = refused (fault 2 n)
ended in_body s n = refused (fault 2 n)
ended at_end s n = accepted (program_of s)

abbrev pub program_end : Reading → ℕ → Read Program
program_end s n = ended s.section s n

abbrev pub nothing_read : Reading
nothing_read = record { section = at_start; inputs = []; body = []; result = 0 }

abbrev pub read_program : Model → Bytes → Read Program
read_program m text = read (program_step m) program_end nothing_read text
