use Rattle.chain.specs.Walks.{walk}
use Rattle.program.specs.View.{links}
use Rattle.program.proofs.Tables.{chains_of, chains_end}
use Rattle.program.proofs.Windows.{shows_along}
use Rattle.program.proofs.table.Table.window.Goals as goal

pub iter-requires : goal.iter-requires
iter-requires c = search chains_end

pub returns : goal.returns
returns c = let t = c.args.self.now in rw c.iter.ensures (shows_along t.records t.first (walk (links t.records) t.first) (chains_of t).used)
