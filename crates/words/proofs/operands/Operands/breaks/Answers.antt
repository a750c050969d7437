use Rattle.std.proofs.Common.{arith}
use Rattle.std.proofs.lemmas.Int.{to_z-of_z}
use Rattle.words.proofs.Numbers.{fits_product}
use Rattle.words.specs.Powers.{few_codes}
use Rattle.words.proofs.operands.Operands.breaks.Goals as goal

pub returns-in-Sub : goal.returns-in-Sub
returns-in-Sub c = grind (arith, to_z-of_z)

pub returns-in-Mul : goal.returns-in-Mul
returns-in-Mul c =
    let few = few_codes c.args.self.words.width c.args.self.words.high in
    grind (arith, to_z-of_z, fits_product)

pub returns-in-Some : goal.returns-in-Some
returns-in-Some c =
    let few = few_codes c.args.self.words.width c.args.self.words.high in
    grind (arith, to_z-of_z, fits_product)
