use Rattle.std.proofs.Common.{is_some, ◌∙◌, refl, rules, tests}
use Rattle.std.proofs.lemmas.Iterator.Consumers.{YieldsList-from_first}
use Rattle.std.proofs.lemmas.Iterator.Search.{all_from_yields_List}
use Rattle.scan.specs.Pieces.{left}
use Rattle.text.specs.Words.{name}
use Rattle.reader.proofs.Words.{each_by_all}
use Rattle.reader.proofs.form.are_names.Goals as goal

pub returns : goal.returns
returns c =
    let ws = left c.args.words in
    all_from_yields_List (λ w. is_some (name w)) c.all.new.self _ c.all.result c.all.ensures.ran (YieldsList-from_first (λ x. x.now) left ws refl) (λ x b q k. search (rules, tests))
    ∙ each_by_all name ws
