-- The values of a run in a list, by the numbers of their records. Assumes nothing.
use Rattle.std.specs.Prelude.{ℕ, List, slice_index}
use Rattle.semantics.specs.Programs.{Env}

-- a record past the end has the value 0
abbrev pub env : List ℕ → Env
env vs r = slice_index vs r
