-- Tokens and forms by what they hold, and not by where that lies. Assumes nothing.
use Rattle.std.specs.Prelude.{◌≡◌, ℕ, suc, ◌≤◌, min, List, [], ◌∷◌, map, take, ℤ, ◌≤ℤ◌, pos, negsuc, neg_ℤ, Some, None, Option}
use Rattle.vocabulary.specs.Names.{operand_count}
use Rattle.scan.specs.Pieces.{Bytes, left}
use Rattle.text.specs.Words.{Argument, a_name, a_number, a_code, each, name}
use Rattle.text.specs.Forms.{Form as Shape, Written as Spelt, rule_line, arrow_line, end_line, in_line, ret_line, instruction_line}
use Rattle.reader.specs.Marks.{marks_of}
use Rattle.reader.specs.declared.token.Token.{Token}
use Rattle.reader.specs.declared.token.Token.TheVariants.{Name, Number, Code, Word}
use Rattle.reader.specs.declared.written.Written.{Written}
use Rattle.reader.specs.declared.form.Form.{Form}
use Rattle.reader.specs.declared.form.Form.TheVariants.{Rule, Arrow, End, In, Ret, Instruction}

-- a number beyond 65,536 is told as 65,536, with its sign
abbrev pub capped : ℤ → ℤ
capped (pos n) = pos (min n 65536)
capped (negsuc n) = neg_ℤ (pos (min (suc n) 65536))

pub data Seen : Type 0 where
  is_name : Bytes → Seen
  is_number : ℤ → Seen
  is_code : ℕ → Seen
  is_word : Bytes → Seen

abbrev pub seen : Token → Seen
seen (Name t) = is_name t.now
seen (Number z) = is_number z
seen (Code n) = is_code n
seen (Word t) = is_word t.now

-- how large a token's number can be
abbrev pub Bounded : Token → Type 0
Bounded (Name t) = Unit {0}
Bounded (Number z) = (negsuc 65535 ≤ℤ z) × (z ≤ℤ pos 65536)
Bounded (Code n) = n ≤ 65536
Bounded (Word t) = Unit {0}

-- what is told of an operand
abbrev pub told : Argument → Seen
told (a_name n) = is_name n
told (a_number z) = is_number (capped z)
told (a_code c) = is_code (min c 65536)

-- the token of a word that is an operand, or of another
abbrev pub token_of : Option Argument → Bytes → Seen
token_of (Some a) w = told a
token_of None w = is_word w

-- the operands that the operation takes
abbrev pub taken : Written → List Token
taken w = take (operand_count w.operation) (w.first ∷ w.second ∷ w.third ∷ [])

-- the operands that an instruction is written with
abbrev pub tokens : Written → List Seen
tokens w = map seen (taken w)

-- an instruction line in place against what it spells
pub record Spells (w : Written) (s : Spelt) : Type 0 where
  pub name : w.name.now ≡ s.name
  pub operation : w.operation ≡ s.operation
  pub marks : w.marks ≡ marks_of s.operation s.marks
  pub operands : tokens w ≡ map told s.arguments

-- a form in place against the form that it is
abbrev pub Forms : Form → Shape → Type 0
Forms Rule f = f ≡ rule_line
Forms Arrow f = f ≡ arrow_line
Forms End f = f ≡ end_line
Forms (In c) f = (ns : List Bytes) × (f ≡ in_line ns) × (each name (left c) ≡ Some ns)
Forms (Ret n) f = f ≡ ret_line n.now
Forms (Instruction w) f = (s : Spelt) × (f ≡ instruction_line s) × Spells w s

-- the same where there may be no form
abbrev pub Formed : Option Form → Option Shape → Type 0
Formed None f = f ≡ None
Formed (Some x) f = (y : Shape) × (f ≡ Some y) × Forms x y
