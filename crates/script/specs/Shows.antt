-- What `show` prints. Assumes nothing.
use Rattle.std.specs.Prelude.{◌+◌, List, [], ◌∷◌, ◌++◌, length, take, Some, None, codes, decimal, Option}
use Rattle.vocabulary.specs.Names.{name_of, operand_count}
use Rattle.semantics.specs.Programs.{Placed, Program}
use Rattle.semantics.specs.Changes.{Loaded}
use Rattle.semantics.specs.declared.Instruction.{Instruction}
use Rattle.semantics.specs.declared.Operand.{Operand}
use Rattle.semantics.specs.declared.Operand.TheVariants.{Input, Record, Constant}
use Rattle.scan.specs.Pieces.{Bytes}
use Rattle.semantics.specs.Cases.{from}
use Rattle.calls.specs.Bench.{State, empty}
use Rattle.script.specs.Answers.{written_marks_text, numbers_text}

-- inputs count from 1
abbrev pub operand_text : Operand → Bytes
operand_text (Input k) = codes " i" ++ decimal (k + 1)
operand_text (Record r) = codes " r" ++ decimal r
operand_text (Constant c) = codes " #" ++ decimal c

-- as many operands as the operation takes
abbrev pub operands : Instruction → List Operand
operands i = take (operand_count i.operation) (i.first ∷ i.second ∷ i.third ∷ [])

abbrev pub operands_text : List Operand → Bytes
operands_text [] = []
operands_text (o ∷ os) = operand_text o ++ operands_text os

-- a record, its operation, the marks but range, and the operands
abbrev pub placed_text : Placed → Bytes
placed_text x =
    (decimal x.at ++ (codes " " ++ name_of x.what.operation))
    ++ (written_marks_text x.what.marks
    ++ (operands_text (operands x.what) ++ (10 ∷ [])))

abbrev pub body_text : List Placed → Bytes
body_text [] = []
body_text (x ∷ xs) = placed_text x ++ body_text xs

-- the number of inputs, the number of instructions and the result's record
abbrev pub program_line : Program → Bytes
program_line p = codes "program " ++ (decimal p.inputs ++ (codes " " ++ (decimal (length p.body) ++ (codes " " ++ (decimal p.result ++ (10 ∷ []))))))

abbrev pub loaded_text : Loaded → Bytes
loaded_text l = program_line l.program ++ (body_text l.program.body ++ (codes "free" ++ (numbers_text l.free ++ (10 ∷ []))))

abbrev pub program_text : Option Loaded → Bytes
program_text None = codes "program none" ++ (10 ∷ [])
program_text (Some l) = loaded_text l

-- the present program, and the rules of the book in order
abbrev pub show_text : State → Bytes
show_text st = program_text st.loaded ++ (codes "book" ++ numbers_text st.book)

-- a bench with this program and no rules
abbrev pub without_rules : Option Loaded → State
without_rules l = record { slots = λ s. empty; free = from 1 32; book = []; loaded = l }
