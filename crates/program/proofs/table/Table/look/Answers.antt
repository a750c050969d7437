use Rattle.std.proofs.Common.{◌≡◌, eqb, ◌∙◌, rules}
use borrow.Author.Tests.{tests}
use Rattle.std.specs.Option.{option_map}
use Rattle.std.proofs.lemmas.Iterator.Consumers.{YieldsList-from_first}
use Rattle.std.proofs.lemmas.Iterator.Search.{find_from_yields_List}
use Rattle.semantics.specs.Programs.{Placed}
use Rattle.program.specs.View.{view}
use Rattle.program.specs.Windows.{in_its_record, shown}
use Rattle.program.proofs.Looking.{look_found}
use Rattle.program.proofs.table.Table.look.Goals as goal

pub returns : goal.returns
returns c =
    let body = (view c.args.self.now).program.body in
    let found =
    find_from_yields_List (λ (x : Placed). eqb x.at c.args.wanted) c.find.new.self _ c.find.result c.find.ensures.ran (YieldsList-from_first in_its_record shown body c.window.ensures) (λ x b q k. search (rules, tests)) in
    let what : c.map.result ≡ option_map (λ p. p.1) c.find.result = search rules in
    what ∙ look_found c.args.wanted body c.find.result found
