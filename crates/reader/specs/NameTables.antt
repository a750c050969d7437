-- Tables of names by the bytes of the names. Assumes nothing.
use Rattle.std.specs.Prelude.{List, map}
use Rattle.copy_vec.specs.Items.{items}
use Rattle.scan.specs.Pieces.{Bytes}
use Rattle.reader.specs.declared.names.Names.{Names}

-- the names that a table holds
abbrev pub names_in : Names → List Bytes
names_in t = map (λ n. n.now) (items t.names)
