use Rattle.std.proofs.Common.{is_some, ap, ◌∙◌}
use Rattle.reader.specs.NameTables.{names_in}
use Rattle.reader.proofs.NameTables.{among_is}
use Rattle.reader.proofs.names.Names.has.Goals as goal

pub returns : goal.returns
returns c = c.is_some.ensures ∙ ap is_some c.place.ensures.value ∙ among_is c.args.name.now (names_in c.args.self.now)
