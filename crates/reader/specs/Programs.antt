-- What a text of a program was read to. Assumes nothing.
use Rattle.std.specs.Prelude.{Ok, Err, Result}
use Rattle.copy_vec.specs.Items.{items}
use Rattle.semantics.specs.Programs.{Program}
use Rattle.semantics.specs.Rules.{numbered}
use Rattle.text.specs.Faults.{Read, accepted, refused}
use Rattle.reader.specs.declared.fault.ReadFault.{ReadFault}
use Rattle.reader.specs.declared.program.ProgramText.{ProgramText}
use Rattle.reader.specs.ReadFaults.{read_fault}

-- the program in the records 1, 2, 3, …
abbrev pub program_in : ProgramText → Program
program_in p = record { inputs = p.inputs; body = numbered 1 (items p.body); result = p.result }

abbrev pub read_of : Result ProgramText ReadFault → Read Program
read_of (Ok p) = accepted (program_in p)
read_of (Err f) = refused (read_fault f)
