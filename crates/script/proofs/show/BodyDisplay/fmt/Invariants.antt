use Rattle.std.proofs.Common.{◌≡◌, ℕ, List, ◌++◌}
use Rattle.std.specs.Fmt.{HasWritten, IsPlainFormatter}
use Rattle.program.specs.View.{view}
use Rattle.program.specs.Windows.{shown}
use Rattle.script.specs.Shows.{body_text}
use Rattle.script.proofs.show.BodyDisplay.fmt.Given as goal

-- what is printed so far, and what is left to print
abbrev pub invariant-loop-at : goal.invariant-loop-at
invariant-loop-at g l = IsPlainFormatter l.initial.f → (done : List ℕ) × HasWritten g.W.Write.write_str_gives l.initial.f done l.f × (done ++ body_text (shown l.at-iterator) ≡ body_text (view l.fn.self.0.now).program.body)
