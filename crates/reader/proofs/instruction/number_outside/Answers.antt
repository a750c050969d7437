use Rattle.std.proofs.Common.{◌∙◌, rules, tests}
use Rattle.std.proofs.lemmas.Iterator.{YieldsList-from_slice}
use Rattle.std.proofs.lemmas.Iterator.Search.{any_from_yields_List}
use Rattle.reader.specs.Tokens.{seen, taken}
use Rattle.reader.specs.Meanings.{far}
use Rattle.reader.proofs.Told.{any_seen}
use Rattle.reader.proofs.instruction.number_outside.Goals as goal

pub returns : goal.returns
returns c =
    let operands = taken c.args.written.now in
    any_from_yields_List (λ t. far (seen t)) _ _ c.any.result c.any.ensures.ran (YieldsList-from_slice operands cc) (λ x b q k. search (rules, tests))
    ∙ any_seen far operands
