use Rattle.std.proofs.Common.{◌≡◌, ℕ, List, ◌++◌}
use Rattle.std.specs.Fmt.{HasWritten, IsPlainFormatter}
use Rattle.semantics.specs.Programs.{records}
use Rattle.program.specs.View.{view}
use Rattle.program.specs.Windows.{shown}
use Rattle.script.specs.Answers.{numbers_text}
use Rattle.script.proofs.show.FreeDisplay.fmt.Given as goal

-- what is printed so far, and what is left to print
abbrev pub invariant-loop-at : goal.invariant-loop-at
invariant-loop-at g l = IsPlainFormatter l.initial.f → (done : List ℕ) × HasWritten g.W.Write.write_str_gives l.initial.f done l.f × (done ++ numbers_text (records (shown l.at-iterator)) ≡ numbers_text (view l.fn.self.0.now).free)
