-- The names of an `in` line, read one by one. Assumes nothing.
use Rattle.std.specs.Prelude.{Bool, cond, ◌||◌, List, [], ◌∷◌, ◌++◌, length, Some, None, Ok, Err, Option, Result, nat_le}
use Rattle.scan.specs.Pieces.{Bytes}
use Rattle.text.specs.Words.{name}
use Rattle.text.specs.Instructions.{among}
use Rattle.reader.specs.declared.fault.TextFault.{TextFault}
use Rattle.reader.specs.declared.fault.TextFault.TheVariants.{NoForm, TooMany, BadName}

abbrev pub by_name : {A : Type 0} → Option Bytes → (Bytes → Result A TextFault) → Result A TextFault
by_name (Some n) go = go n
by_name None go = Err NoForm

-- the names so far, whether one stood there twice, and the words to come
abbrev pub inputs_of : List Bytes → Bool → List Bytes → Result (List Bytes) TextFault
inputs_of ns again [] = cond again (Err BadName) (Ok ns)
inputs_of ns again (w ∷ ws) = cond (nat_le 8 (length ns)) (Err TooMany) (by_name (name w) (λ n. inputs_of (ns ++ n ∷ []) (again || among n ns) ws))

-- the names that a call left, where it did not refuse
abbrev pub tabled : {X : Type 0} → List Bytes → Result X TextFault → Result (List Bytes) TextFault
tabled ns (Ok x) = Ok ns
tabled ns (Err f) = Err f
