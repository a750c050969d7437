use Rattle.std.proofs.Common.{◌∙◌, rules}
use Rattle.std.proofs.lemmas.Iterator.{YieldsList-from_slice}
use Rattle.std.proofs.lemmas.Iterator.Search.{find_from_yields_List}
use borrow.Author.Tests.{tests}
use Rattle.vocabulary.specs.Names.{same_word, name_of, operations, operation_named}
use Rattle.vocabulary.proofs.Named.{names_operation}
use Rattle.vocabulary.proofs.operation.Operation.named.Goals as goal

pub returns-clause-value : goal.returns-clause-value
unfolding operation_named
returns-clause-value c =
    c.copied.ensures ∙ find_from_yields_List (λ op. same_word c.args.word.now (name_of op)) _ _ c.find.result c.find.ensures.ran (YieldsList-from_slice operations cc) (λ x b q k. search (rules, tests))

pub returns-clause-meaning : goal.returns-clause-meaning
returns-clause-meaning c = names_operation c.args.word.now _ (returns-clause-value c)
