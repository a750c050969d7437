use Rattle.std.proofs.Common.{arith}
use Rattle.std.proofs.lemmas.Int.{to_z-of_z}
use Rattle.words.proofs.Numbers.{div-min, shr_z-min}
use Rattle.words.specs.Powers.{few_codes}
use Rattle.words.proofs.operands.Operands.result.Goals as goal

pub returns-in-Lshr : goal.returns-in-Lshr
returns-in-Lshr c = grind (arith, few_codes, div-min)

pub returns-in-Ashr : goal.returns-in-Ashr
returns-in-Ashr c = grind (arith, to_z-of_z, shr_z-min)

pub returns-in-Sdiv-2 : goal.returns-in-Sdiv-2
returns-in-Sdiv-2 c = grind (arith, to_z-of_z)

pub returns-in-Srem : goal.returns-in-Srem
returns-in-Srem c = grind (arith, to_z-of_z)
