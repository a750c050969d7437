-- Operations and marks as texts write them. Assumes nothing.
use Rattle.std.specs.Prelude.{◌≡◌, ℕ, Bool, cond, List, [], ◌∷◌, Some, None, codes, Option, ◌≢◌}
use Rattle.std.specs.List.{find}
use Rattle.std.specs.Str.{bytes_eq}
use Rattle.vocabulary.specs.declared.marks.Marks.{Marks}
use Rattle.vocabulary.specs.declared.operation.Operation.{Operation}
use Rattle.vocabulary.specs.declared.operation.Operation.TheVariants.{Add, Sub, Mul, Shl, Lshr, Ashr, Udiv, Urem, Sdiv, Srem, And, Or, Xor, Eq, Ne, Ult, Ule, Slt, Sle, Copy, Freeze, Select}

-- two words of the same bytes
abbrev pub same_word : List ℕ → List ℕ → Bool
same_word xs ys = bytes_eq xs ys

abbrev pub name_of : Operation → List ℕ
name_of Add = codes "add"
name_of Sub = codes "sub"
name_of Mul = codes "mul"
name_of Shl = codes "shl"
name_of Lshr = codes "lshr"
name_of Ashr = codes "ashr"
name_of Udiv = codes "udiv"
name_of Urem = codes "urem"
name_of Sdiv = codes "sdiv"
name_of Srem = codes "srem"
name_of And = codes "and"
name_of Or = codes "or"
name_of Xor = codes "xor"
name_of Eq = codes "eq"
name_of Ne = codes "ne"
name_of Ult = codes "ult"
name_of Ule = codes "ule"
name_of Slt = codes "slt"
name_of Sle = codes "sle"
name_of Copy = codes "copy"
name_of Freeze = codes "freeze"
name_of Select = codes "select"

abbrev pub operations : List Operation
operations = Add ∷ Sub ∷ Mul ∷ Shl ∷ Lshr ∷ Ashr ∷ Udiv ∷ Urem ∷ Sdiv ∷ Srem ∷ And ∷ Or ∷ Xor ∷ Eq ∷ Ne ∷ Ult ∷ Ule ∷ Slt ∷ Sle ∷ Copy ∷ Freeze ∷ Select ∷ []

-- the place of an operation in their order
abbrev pub number_of : Operation → ℕ
number_of Add = 0
number_of Sub = 1
number_of Mul = 2
number_of Shl = 3
number_of Lshr = 4
number_of Ashr = 5
number_of Udiv = 6
number_of Urem = 7
number_of Sdiv = 8
number_of Srem = 9
number_of And = 10
number_of Or = 11
number_of Xor = 12
number_of Eq = 13
number_of Ne = 14
number_of Ult = 15
number_of Ule = 16
number_of Slt = 17
number_of Sle = 18
number_of Copy = 19
number_of Freeze = 20
number_of Select = 21

-- how many operands an operation takes: a domain computes those that take two
abbrev pub operand_count : Operation → ℕ
operand_count Add = 2
operand_count Sub = 2
operand_count Mul = 2
operand_count Shl = 2
operand_count Lshr = 2
operand_count Ashr = 2
operand_count Udiv = 2
operand_count Urem = 2
operand_count Sdiv = 2
operand_count Srem = 2
operand_count And = 2
operand_count Or = 2
operand_count Xor = 2
operand_count Eq = 2
operand_count Ne = 2
operand_count Ult = 2
operand_count Ule = 2
operand_count Slt = 2
operand_count Sle = 2
operand_count Copy = 1
operand_count Freeze = 1
operand_count Select = 3

-- the operation that a word names
unfoldable pub operation_named : List ℕ → Option Operation
operation_named word = find (λ op. same_word word (name_of op)) operations

-- the word is the operation's name, or no operation has that name
abbrev pub NamesOperation : List ℕ → Option Operation → Type 0
NamesOperation word (Some op) = name_of op ≡ word
NamesOperation word None = (op : Operation) → name_of op ≢ word

-- a mark is the set of it alone: nuw 1, nsw 2, exact 4, range 8
abbrev pub mark_named : List ℕ → Option Marks
mark_named word =
    cond (same_word word (codes "nuw")) (Some (record { bits = 1 }))
    (cond (same_word word (codes "nsw")) (Some (record { bits = 2 }))
    (cond (same_word word (codes "exact")) (Some (record { bits = 4 }))
    (cond (same_word word (codes "range")) (Some (record { bits = 8 }))
    None)))
