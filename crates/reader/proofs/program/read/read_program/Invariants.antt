use Rattle.std.proofs.Common.{◌≡◌, ◌+◌, ◌≤◌, length}
use Rattle.scan.specs.Pieces.{pieces_left}
use Rattle.text.specs.Faults.{walk}
use Rattle.text.specs.ProgramTexts.{program_step, program_end, read_program}
use Rattle.reader.specs.Readings.{reading_of}
use Rattle.reader.proofs.program.read.read_program.Given as goal

-- the lines that are left are few, and give the whole answer
abbrev pub invariant-loop-line : goal.invariant-loop-line
invariant-loop-line g l =
    let m = g.D.Domain.model l.domain in
    record {
      few : l.number + length (pieces_left l.line-iterator) ≤ 4097;
      answer : walk (program_step m) program_end (reading_of l.reading) l.number (pieces_left l.line-iterator) ≡ read_program m l.text;
    }
