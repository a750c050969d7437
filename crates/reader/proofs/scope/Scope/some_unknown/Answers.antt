use Rattle.std.proofs.Common.{◌∙◌, rules, tests}
use Rattle.std.proofs.lemmas.Iterator.{YieldsList-from_slice}
use Rattle.std.proofs.lemmas.Iterator.Search.{any_from_yields_List}
use Rattle.reader.specs.Scopes.{known_names}
use Rattle.reader.specs.Tokens.{seen, taken}
use Rattle.reader.specs.Meanings.{strange}
use Rattle.reader.proofs.Told.{any_seen}
use Rattle.reader.proofs.scope.Scope.some_unknown.Goals as goal

pub returns : goal.returns
returns c =
    let operands = taken c.args.written.now in
    let ns = known_names c.args.self.now in
    any_from_yields_List (λ t. strange ns (seen t)) _ _ c.any.result c.any.ensures.ran (YieldsList-from_slice operands cc) (λ x b q k. search (rules, tests))
    ∙ any_seen (strange ns) operands
