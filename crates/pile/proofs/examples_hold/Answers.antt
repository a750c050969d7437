use Rattle.pile.proofs.Examples.{examples}
use Rattle.pile.proofs.examples_hold.Goals as goal

pub returns : goal.returns
returns c = examples
