use Rattle.std.proofs.Common.{◌≡◌, false}
use Rattle.scan.specs.Pieces.{left}
use Rattle.reader.specs.NameTables.{names_in}
use Rattle.reader.specs.Inputs.{inputs_of}
use Rattle.reader.proofs.program.read.read_inputs.Given as goal

-- what is left gives the answer
abbrev pub invariant-loop-word : goal.invariant-loop-word
invariant-loop-word l = inputs_of (names_in l.names) l.repeated (left l.word-iterator) ≡ inputs_of (names_in l.fn.names) false (left l.fn.words)
