-- Instructions that say no more than a text can say. Assumes nothing.
use Rattle.std.specs.Prelude.{◌≡◌, ℕ, ◌+◌, ◌/◌, ◌%◌, Bool, List, ◌==◌}
use Rattle.vocabulary.specs.declared.operation.Operation.{Operation}
use Rattle.semantics.specs.declared.Instruction.{Instruction}
use Rattle.semantics.specs.Programs.{reads}
use Rattle.semantics.specs.Operations.{facts}
use Rattle.semantics.specs.Cases.{keep}
use Rattle.text.specs.Instructions.{sum, made}

-- a mark is in a set
abbrev pub in_set : ℕ → ℕ → Bool
in_set marks x = marks / x % 2 == 1

-- the marks that are written: those that may stand on the operation and are in the set
abbrev pub written_marks : Operation → ℕ → List ℕ
written_marks op marks = keep (in_set marks) (facts op).permitted

-- its marks are the unwritten and the written ones, and unused operands hold the filler
abbrev pub Neat : Instruction → Type 0
Neat i = made i.operation ((facts i.operation).unwritten + sum (written_marks i.operation i.marks.bits)) (reads i) ≡ i
