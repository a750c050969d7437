-- Which marks may stand on each of the 22 operations, and which it bears unwritten. Assumes nothing.
use Rattle.std.specs.Prelude.{ℕ, List, [], ◌∷◌}
use Rattle.vocabulary.specs.declared.operation.Operation.{Operation}
use Rattle.vocabulary.specs.declared.operation.Operation.TheVariants.{Add, Sub, Mul, Shl, Lshr, Ashr, Udiv, Urem, Sdiv, Srem, And, Or, Xor, Eq, Ne, Ult, Ule, Slt, Sle, Copy, Freeze, Select}

-- the marks that may be written on an operation, and the set that it bears unwritten: nuw 1, nsw 2, exact 4, range 8
pub record Facts : Type 0 where
  pub permitted : List ℕ
  pub unwritten : ℕ

abbrev pub wraps : ℕ → Facts
wraps u = record { permitted = 1 ∷ 2 ∷ []; unwritten = u }

abbrev pub divides : ℕ → Facts
divides u = record { permitted = 4 ∷ []; unwritten = u }

abbrev pub plain : Facts
plain = record { permitted = []; unwritten = 0 }

-- nuw and nsw on add, sub, mul and shl, exact on udiv, sdiv, lshr and ashr; every shift bears range
abbrev pub facts : Operation → Facts
facts Add = wraps 0
facts Sub = wraps 0
facts Mul = wraps 0
facts Shl = wraps 8
facts Lshr = divides 8
facts Ashr = divides 8
facts Udiv = divides 0
facts Urem = plain
facts Sdiv = divides 0
facts Srem = plain
facts And = plain
facts Or = plain
facts Xor = plain
facts Eq = plain
facts Ne = plain
facts Ult = plain
facts Ule = plain
facts Slt = plain
facts Sle = plain
facts Copy = plain
facts Freeze = plain
facts Select = plain
