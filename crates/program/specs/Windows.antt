-- What a window on a table shows. Assumes nothing.
use Rattle.std.specs.Prelude.{ℕ, List, map}
use Rattle.semantics.specs.Programs.{Placed}
use Rattle.semantics.specs.declared.Instruction.{Instruction}
use Rattle.chain.specs.Links.{links_left}
use Rattle.program.specs.declared.record.Record.{Record}
use Rattle.program.specs.declared.table.window.Window.{Window}

-- the number of a record with the instruction that stands in it
abbrev pub in_its_record : ℕ × Instruction → Placed
in_its_record p = record { at = p.0; what = p.1 }

-- the records from where it is to the chain's end, with what stands in them
abbrev pub shown : Window → List Placed
shown w = map (λ (p : ℕ × Record). in_its_record (p.0, p.1.instruction)) (links_left w.links)
