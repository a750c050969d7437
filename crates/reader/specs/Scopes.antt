-- The names that an instruction line may read. Assumes nothing.
use Rattle.text.specs.Instructions.{Names as Known}
use Rattle.reader.specs.declared.scope.Scope.{Scope}
use Rattle.reader.specs.NameTables.{names_in}

abbrev pub known_names : Scope → Known
known_names s = record { variables = names_in s.variables; instructions = names_in s.instructions }
