-- What a vector holds. Assumes nothing.
use Rattle.std.specs.Prelude.{ℕ, List, take}
use Rattle.copy_vec.specs.declared.CopyVec.{CopyVec}

-- the elements in their order
abbrev pub items : {T : Type 0} {N : ℕ} → CopyVec T N → List T
items v = take v.count v.slots
