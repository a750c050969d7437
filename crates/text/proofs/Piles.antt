-- What the examples of texts share: the house pile of width 4, and rules and programs by their instructions. Assumes nothing.
use Rattle.std.proofs.Common.{ℕ, List}
use Rattle.domain.specs.Model.{Model}
use Rattle.words.specs.Words.{words}
use Rattle.layers.specs.Layers.{poisoned}
use Rattle.semantics.specs.declared.Instruction.{Instruction}
use Rattle.semantics.specs.Programs.{Program}
use Rattle.semantics.specs.Rules.{Rule, numbered}

-- the house pile of a width
abbrev pub house_of : ℕ → Model
house_of w = poisoned (words w) 15

abbrev pub house4 : Model
house4 = house_of 4

abbrev pub rule : ℕ → List Instruction → List Instruction → Rule
rule n source target = record { variables = n; source = source; target = target }

abbrev pub program : ℕ → List Instruction → ℕ → Program
program n body result = record { inputs = n; body = numbered 1 body; result = result }
