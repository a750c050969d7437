-- A line without a fault makes a neat instruction. Assumes nothing.
use Rattle.std.proofs.Common.{◌+◌, Bool, List, [], ◌∷◌, ◌++◌, map, ◌∙◌}
use mathlib.Core.Path.{subst⁻¹}
use lib.ListN.{length-map}
use Rattle.domain.specs.Model.{Model}
use Rattle.semantics.specs.Programs.{All}
use Rattle.semantics.specs.Operations.{facts}
use Rattle.text.specs.Forms.{Written}
use Rattle.text.specs.Instructions.{Named, Names, bodies, operand, sum, made, instruction, entered}
use Rattle.text.specs.Neat.{Neat}
use Rattle.text.proofs.Lines.{Counted, Faultless, reads_made, bodies_push}
use Rattle.text.proofs.Spelled.{marks_back}

pub neat_made : (m : Model) (too_many : Bool) (ns : Names) (w : Written) → Counted w → Faultless m too_many ns w → Neat (instruction m ns w)
neat_made m too_many ns w c f =
    let os = map (operand m ns) w.arguments in
    let count = length-map w.arguments (operand m ns) ∙ c in
    λ j. made w.operation (marks_back w.operation w.marks f.marked j) (reads_made w.operation ((facts w.operation).unwritten + sum w.marks) os count j)

all_push : {A : Type 0} (P : A → Type 0) (xs : List A) (x : A) → All P xs → P x → All P (xs ++ x ∷ [])
all_push P [] x a p = (p, tt)
all_push P (y ∷ xs) x a p = (a.0, all_push P xs x a.1 p)

pub neat_entered : (m : Model) (too_many : Bool) (ns : Names) (w : Written) (xs : List Named) → Counted w → Faultless m too_many ns w → All Neat (bodies xs) → All Neat (bodies (entered m ns w xs))
neat_entered m too_many ns w xs c f a = subst⁻¹ (All Neat) (bodies_push xs _) (all_push Neat (bodies xs) (instruction m ns w) a (neat_made m too_many ns w c f))
