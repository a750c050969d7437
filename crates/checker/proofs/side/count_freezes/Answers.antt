use Rattle.copy_vec.specs.Items.{items}
use Rattle.std.proofs.Common.{◌≡◌, count_by, ◌∙◌, rules}
use Rattle.semantics.specs.Programs.{is_freeze}
use Rattle.checker.proofs.Sides.{freezes_counted}
use Rattle.checker.proofs.side.count_freezes.Goals as goal

pub returns-clause-value : goal.returns-clause-value
returns-clause-value c = let e : c.count.result ≡ count_by is_freeze (items c.args.side.now) = search rules in e ∙ freezes_counted (items c.args.side.now) 1
