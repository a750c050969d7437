use Rattle.std.proofs.Common.{◌≤◌, length, ◌∙◌, rules, tests}
use Rattle.std.specs.Char.{is_ascii_alphanumeric}
use Rattle.std.proofs.lemmas.Iterator.{YieldsList-from_slice}
use Rattle.std.proofs.lemmas.Iterator.Search.{all_from_yields_List}
use Rattle.reader.proofs.Words.{plain_by_bytes}
use Rattle.reader.proofs.token.is_plain_name.Goals as goal

pub returns-then-contains : goal.returns-then-contains
returns-then-contains c =
    let word = c.args.word.now in
    let low : 1 ≤ length word = search (rules, tests) in
    let high : length word ≤ 15 = search (rules, tests) in
    all_from_yields_List is_ascii_alphanumeric _ _ c.all.result c.all.ensures.ran (YieldsList-from_slice word cc) (λ x b q k. search (rules, tests))
    ∙ plain_by_bytes word low high
