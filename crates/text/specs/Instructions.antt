-- What an instruction line means where it stands, and its faults 3 to 7. Assumes nothing.
use Rattle.std.specs.Prelude.{ℕ, suc, ◌+◌, Bool, true, false, cond, not, ◌||◌, List, [], ◌∷◌, ◌++◌, map, pos, negsuc, Some, None, Ok, Err, Option, Result, nat_lt, slice_index_or}
use Rattle.domain.specs.declared.fault.DomainFault.{DomainFault}
use Rattle.domain.specs.Model.{Model}
use Rattle.domain.specs.Faults.{settled_code, literal_code}
use Rattle.semantics.specs.Programs.{has}
use Rattle.vocabulary.specs.declared.operation.Operation.{Operation}
use Rattle.semantics.specs.declared.Operand.{Operand}
use Rattle.semantics.specs.declared.Operand.TheVariants.{Input, Record, Constant}
use Rattle.semantics.specs.declared.Instruction.{Instruction}
use Rattle.scan.specs.Pieces.{Bytes}
use Rattle.vocabulary.specs.Names.{same_word}
use Rattle.semantics.specs.Operations.{facts}
use Rattle.text.specs.Words.{Argument, a_name, a_number, a_code, any}
use Rattle.text.specs.Forms.{Written}
use Rattle.text.specs.Faults.{first_of}

-- an instruction under its name
pub record Named : Type 0 where
  pub name : Bytes
  pub what : Instruction

-- the names that an instruction line finds: variables of a rule or inputs of a program, and its part's instructions so far
pub record Names : Type 0 where
  pub variables : List Bytes
  pub instructions : List Bytes

abbrev pub names_of : List Named → List Bytes
names_of xs = map (λ x. x.name) xs

abbrev pub bodies : List Named → List Instruction
bodies xs = map (λ x. x.what) xs

abbrev pub placed_at : Bool → Option ℕ → Option ℕ
placed_at true later = Some 0
placed_at false (Some k) = Some (suc k)
placed_at false None = None

-- the place of a name in a list, from 0
abbrev pub place : Bytes → List Bytes → Option ℕ
place n [] = None
place n (x ∷ xs) = placed_at (same_word n x) (place n xs)

abbrev pub among : Bytes → List Bytes → Bool
among n xs = any (same_word n) xs

-- readable, and so taken
abbrev pub known : Names → Bytes → Bool
known ns n = among n ns.instructions || among n ns.variables

-- an unknown name read in a source is a variable
abbrev pub learn : List Bytes → List Bytes → Argument → List Bytes
learn instructions vs (a_name n) = cond (among n instructions || among n vs) vs (vs ++ n ∷ [])
learn instructions vs (a_number z) = vs
learn instructions vs (a_code c) = vs

-- the variables after a source line's operands, numbered by first appearance
abbrev pub learnt : List Bytes → List Bytes → List Argument → List Bytes
learnt instructions vs [] = vs
learnt instructions vs (a ∷ rest) = learnt instructions (learn instructions vs a) rest

-- what stands in the places of operands that an operation does not take
abbrev pub filler : Operand
filler = Constant 0

abbrev pub constant : Option ℕ → Operand
constant (Some c) = Constant c
constant None = filler

abbrev pub named : Option ℕ → Option ℕ → Operand
named (Some j) v = Record (suc j)
named None (Some v) = Input v
named None None = filler

-- what an operand means
abbrev pub operand : Model → Names → Argument → Operand
operand m ns (a_name n) = named (place n ns.instructions) (place n ns.variables)
operand m ns (a_number z) = constant (m.literal z)
operand m ns (a_code c) = Constant c

abbrev pub sum : List ℕ → ℕ
sum [] = 0
sum (x ∷ xs) = x + sum xs

-- an instruction from its operands
abbrev pub made : Operation → ℕ → List Operand → Instruction
made op marks os = record {
  operation = op;
  marks = record { bits = marks };
  first = slice_index_or os 0 filler;
  second = slice_index_or os 1 filler;
  third = slice_index_or os 2 filler;
}

-- what the line means
abbrev pub instruction : Model → Names → Written → Instruction
instruction m ns w = made w.operation ((facts w.operation).unwritten + sum w.marks) (map (operand m ns) w.arguments)

abbrev pub outside : Argument → Bool
outside (a_name n) = false
outside (a_number (pos v)) = nat_lt 255 v
outside (a_number (negsuc v)) = nat_lt 128 (suc v)
outside (a_code c) = nat_lt 65535 c

-- fault 3: number outside −128 to 255, or # number over 65,535
abbrev pub number_outside : Written → Bool
number_outside w = any outside w.arguments

abbrev pub unreadable : Names → Argument → Bool
unreadable ns (a_name n) = not (known ns n)
unreadable ns (a_number z) = false
unreadable ns (a_code c) = false

-- fault 5: name not readable here, or already taken
abbrev pub name_wrong : Names → Written → Bool
name_wrong ns w = any (unreadable ns) w.arguments || known ns w.name

abbrev pub repeated : List ℕ → Bool
repeated [] = false
repeated (x ∷ xs) = has x xs || repeated xs

-- fault 6: mark not allowed or repeated
abbrev pub bad_marks : Operation → List ℕ → Bool
bad_marks op ms = any (λ x. not (has x (facts op).permitted)) ms || repeated ms

abbrev pub refuses : Result ℕ DomainFault → Bool
refuses (Ok c) = false
refuses (Err f) = true

abbrev pub unsettled : Model → Argument → Bool
unsettled m (a_name n) = false
unsettled m (a_number z) = refuses (literal_code m z)
unsettled m (a_code c) = refuses (settled_code m c)

-- fault 7: constant without a settled code
abbrev pub code_missing : Model → Written → Bool
code_missing m w = any (unsettled m) w.arguments

-- the smallest fault of an instruction line, where `too_many` says that it, or a variable in it, is one too many (4)
abbrev pub instruction_fault : Model → Bool → Names → Written → Option ℕ
instruction_fault m too_many ns w =
    first_of (number_outside w) 3
    (first_of too_many 4
    (first_of (name_wrong ns w) 5
    (first_of (bad_marks w.operation w.marks) 6
    (first_of (code_missing m w) 7 None))))

-- an instruction line after the others of its part
abbrev pub entered : Model → Names → Written → List Named → List Named
entered m ns w xs = xs ++ record { name = w.name; what = instruction m ns w } ∷ []
