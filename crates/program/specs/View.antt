-- A table by the program that it holds, with its free records. Assumes nothing.
use Rattle.std.specs.Prelude.{ℕ, ◌-◌, List, map, slice_index_or}
use Rattle.vocabulary.specs.declared.operation.Operation.TheVariants.{Copy}
use Rattle.semantics.specs.Programs.{Placed}
use Rattle.semantics.specs.Changes.{Loaded}
use Rattle.semantics.specs.declared.Instruction.{Instruction}
use Rattle.semantics.specs.declared.Operand.TheVariants.{Constant}
use Rattle.chain.specs.Walks.{walk}
use Rattle.program.specs.declared.record.Record.{Record}
use Rattle.program.specs.declared.table.Table.{Table}

abbrev pub links : List Record → List ℕ
links rs = map (λ (r : Record). r.next) rs

abbrev pub instructions : List Record → List Instruction
instructions rs = map (λ (r : Record). r.instruction) rs

-- what a record past the last would hold
abbrev pub no_instruction : Instruction
no_instruction = record { operation = Copy; marks = record { bits = 0 }; first = Constant 0; second = Constant 0; third = Constant 0 }

-- the instruction of record k, counted from 1
abbrev pub placed : List Instruction → ℕ → Placed
placed is k = record { at = k; what = slice_index_or is (k - 1) no_instruction }

-- the instructions along a chain
abbrev pub along : List Record → List ℕ → List Placed
along rs ks = map (placed (instructions rs)) ks

abbrev pub view : Table → Loaded
view t = record {
  program = record { inputs = t.inputs; body = along t.records (walk (links t.records) t.first); result = t.result };
  free = walk (links t.records) t.free;
}
