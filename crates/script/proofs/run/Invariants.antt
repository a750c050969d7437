use Rattle.std.proofs.Common.{◌≡◌, ◌+◌, ◌≤◌, ◌++◌, length, None, string_bytes}
use Rattle.scan.specs.Pieces.{whole_lines}
use Rattle.script.specs.Items.{items_from}
use Rattle.script.specs.Transcripts.{view, transcript, output}
use Rattle.script.proofs.run.Given as goal

-- what is printed so far, and what the rest will print
abbrev pub invariant-loop-rest : goal.invariant-loop-rest
invariant-loop-rest l = (l.number + length l.rest ≤ length l.script + 1) × (string_bytes l.out ++ transcript (view l.interpreter) (items_from None l.number (whole_lines l.rest)) ≡ output l.script)

abbrev pub decreases-loop-rest : goal.decreases-loop-rest
decreases-loop-rest l = length l.rest
