-- The state of a reader of programs as what the lines so far say. Assumes nothing.
use Rattle.std.specs.Prelude.{List, [], ◌∷◌}
use Rattle.copy_vec.specs.Items.{items}
use Rattle.scan.specs.Pieces.{Bytes}
use Rattle.semantics.specs.declared.Instruction.{Instruction}
use Rattle.text.specs.Instructions.{Named}
use Rattle.text.specs.ProgramTexts.{Section as Place, at_start, in_body, at_end, Reading as Said}
use Rattle.reader.specs.declared.program.Section.{Section}
use Rattle.reader.specs.declared.program.Section.TheVariants.{Start, Body, End}
use Rattle.reader.specs.declared.program.Reading.{Reading}
use Rattle.reader.specs.NameTables.{names_in}

abbrev pub section_of : Section → Place
section_of Start = at_start
section_of Body = in_body
section_of End = at_end

-- instructions under their names, as many as there are names
abbrev pub named_all : List Bytes → List Instruction → List Named
named_all [] is = []
named_all (n ∷ ns) [] = []
named_all (n ∷ ns) (i ∷ is) = record { name = n; what = i } ∷ named_all ns is

abbrev pub reading_of : Reading → Said
reading_of r = record {
  section = section_of r.section;
  inputs = names_in r.scope.variables;
  body = named_all (names_in r.scope.instructions) (items r.body);
  result = r.result;
}
