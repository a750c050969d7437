use Rattle.std.proofs.Common.{◌∙◌, rules}
use borrow.Author.Tests.{tests}
use Rattle.std.proofs.lemmas.Iterator.Consumers.{YieldsList-from_first, YieldsList-from_filter, YieldsList-at, count_from_yields_List}
use Rattle.semantics.specs.Programs.{Placed, is_freeze}
use Rattle.program.specs.View.{view}
use Rattle.program.specs.Windows.{in_its_record, shown}
use Rattle.program.proofs.Looking.{freezes_counted}
use Rattle.program.proofs.table.Table.count_freezes.Goals as goal

pub returns : goal.returns
returns c =
    let body = (view c.args.self.now).program.body in
    count_from_yields_List c.filter.result c.count.result c.count.ensures.ran
    (YieldsList-from_filter _ (λ (x : Placed). is_freeze x.what) (YieldsList-at c.filter.ensures.source (YieldsList-from_first in_its_record shown body c.window.ensures)) c.filter.ensures.closure (λ x b q k. search (rules, tests))) ∙
    freezes_counted body
