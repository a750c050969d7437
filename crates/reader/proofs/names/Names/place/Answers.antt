use Rattle.std.proofs.Common.{◌∙◌, rules, tests, Bor}
use Rattle.std.proofs.lemmas.Iterator.{YieldsList-from_slice}
use Rattle.std.proofs.lemmas.Iterator.Search.{position_from_yields_List}
use Rattle.copy_vec.specs.Items.{items}
use Rattle.vocabulary.specs.Names.{same_word}
use Rattle.scan.specs.Pieces.{Bytes}
use Rattle.reader.proofs.NameTables.{place_searched}
use Rattle.reader.proofs.names.Names.place.Goals as goal

pub returns-clause-value : goal.returns-clause-value
returns-clause-value c =
    let n = c.args.name.now in
    let held = items c.args.self.now.names in
    position_from_yields_List (λ (x : Bor Bytes). same_word n x.now) _ _ c.position.result c.position.ensures.ran (YieldsList-from_slice held cc) (λ x b q k. search (rules, tests))
    ∙ place_searched n held
