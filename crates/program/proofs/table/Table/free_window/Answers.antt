use Rattle.std.proofs.Common.{ap, ◌∙◌}
use Rattle.semantics.specs.Programs.{records}
use Rattle.chain.specs.Walks.{walk}
use Rattle.program.specs.View.{links, instructions}
use Rattle.program.proofs.Tables.{chains_of, chains_end}
use Rattle.program.proofs.Steps.{records_along}
use Rattle.program.proofs.Windows.{shows_along}
use Rattle.program.proofs.table.Table.free_window.Goals as goal

pub iter-requires : goal.iter-requires
iter-requires c = search chains_end

pub returns : goal.returns
returns c =
    let t = c.args.self.now in
    let js = walk (links t.records) t.free in
    rw c.iter.ensures (ap records (shows_along t.records t.free js (chains_of t).spare) ∙ records_along (instructions t.records) js)
