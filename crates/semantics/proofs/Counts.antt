-- An operation takes as many operands as its instructions read. Assumes nothing.
use Rattle.std.proofs.Common.{◌≡◌, ◌≤◌, length, refl, arith}
use Rattle.vocabulary.specs.Names.{operand_count}
use Rattle.vocabulary.specs.declared.operation.Operation.{Operation}
use Rattle.vocabulary.specs.declared.operation.Operation.TheVariants.{Add, Sub, Mul, Shl, Lshr, Ashr, Udiv, Urem, Sdiv, Srem, And, Or, Xor, Eq, Ne, Ult, Ule, Slt, Sle, Copy, Freeze, Select}
use Rattle.semantics.specs.declared.Instruction.{Instruction}
use Rattle.semantics.specs.Programs.{Kind, binary, copying, freezing, selecting, kind, reads_of, reads}

count_of : (op : Operation) (i : Instruction) → length (reads_of (kind op) i) ≡ operand_count op
count_of Add i = refl
count_of Sub i = refl
count_of Mul i = refl
count_of Shl i = refl
count_of Lshr i = refl
count_of Ashr i = refl
count_of Udiv i = refl
count_of Urem i = refl
count_of Sdiv i = refl
count_of Srem i = refl
count_of And i = refl
count_of Or i = refl
count_of Xor i = refl
count_of Eq i = refl
count_of Ne i = refl
count_of Ult i = refl
count_of Ule i = refl
count_of Slt i = refl
count_of Sle i = refl
count_of Copy i = refl
count_of Freeze i = refl
count_of Select i = refl

pub reads_count : (i : Instruction) → length (reads i) ≡ operand_count i.operation
reads_count i = count_of i.operation i

few_of : (k : Kind) (i : Instruction) → length (reads_of k i) ≤ 3
few_of binary i = omega arith
few_of copying i = omega arith
few_of freezing i = omega arith
few_of selecting i = omega arith

pub reads_few : (i : Instruction) → length (reads i) ≤ 3
reads_few i = few_of (kind i.operation) i
