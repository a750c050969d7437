-- A run by one instruction after the other. Assumes nothing.
use Rattle.std.specs.Prelude.{◌≡◌, ℕ, List, ◌∷◌, Result, Ok, Err}
use Rattle.domain.specs.Model.{Model, trap}
use Rattle.domain.specs.declared.Trapped.{Trapped}
use Rattle.semantics.specs.Programs.{Placed, Env, run}

-- an instruction evaluated: whatever stands behind it runs on from what it left, and a trap is the outcome of the whole
abbrev pub RunsOn : Model → List ℕ → Placed → Env → List ℕ → Env → List ℕ → Result (Unit {0}) Trapped → Type 0
RunsOn m ins x ρ cs σ ds (Ok _) = (result : ℕ) (xs : List Placed) → run m ins result (x ∷ xs) ρ cs ≡ run m ins result xs σ ds
RunsOn m ins x ρ cs σ ds (Err _) = (result : ℕ) (xs : List Placed) → run m ins result (x ∷ xs) ρ cs ≡ trap
