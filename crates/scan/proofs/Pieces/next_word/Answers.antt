use Rattle.scan.specs.Pieces.{separates, pieces_left}
use Rattle.scan.proofs.Cuts.{word_found}
use Rattle.scan.proofs.Pieces.next_word.Goals as goal

pub returns : goal.returns
returns c =
    let pieces = c.args.self.now in
    word_found (separates pieces.separators) pieces.rest.now c.skip-self.result.now (pieces_left c.next.new.self) c.next.result c.skip-self.ensures c.next.ensures.steps
