-- What an instruction line is found to say, by its tokens. Assumes nothing.
use Rattle.std.specs.Prelude.{ℕ, Bool, false, cond, not, ◌||◌, List, Some, None, Ok, Err, Option, Result, bit_or, slice_get}
use Rattle.domain.specs.declared.fault.DomainFault.{DomainFault}
use Rattle.vocabulary.specs.declared.marks.Marks.{Marks}
use Rattle.domain.specs.Model.{Model}
use Rattle.domain.specs.Faults.{settled_code, literal_code}
use Rattle.semantics.specs.declared.Operand.{Operand}
use Rattle.semantics.specs.declared.Operand.TheVariants.{Constant}
use Rattle.semantics.specs.declared.Instruction.{Instruction}
use Rattle.semantics.specs.Operations.{facts}
use Rattle.text.specs.Words.{a_number, a_code, any}
use Rattle.text.specs.Instructions.{Names, known, named, place, filler, outside}
use Rattle.reader.specs.declared.fault.TextFault.{TextFault}
use Rattle.reader.specs.declared.fault.TextFault.TheVariants.{NumberOutside, TooMany, BadName, BadMark}
use Rattle.reader.specs.declared.fault.ReadFault.{ReadFault}
use Rattle.reader.specs.declared.fault.ReadFault.TheVariants.{Text, Domain}
use Rattle.reader.specs.declared.written.Written.{Written}
use Rattle.reader.specs.Tokens.{Seen, is_name, is_number, is_code, is_word, tokens}

abbrev pub far : Seen → Bool
far (is_name n) = false
far (is_number z) = outside (a_number z)
far (is_code c) = outside (a_code c)
far (is_word w) = false

abbrev pub strange : Names → Seen → Bool
strange ns (is_name n) = not (known ns n)
strange ns (is_number z) = false
strange ns (is_code c) = false
strange ns (is_word w) = false

abbrev pub some_far : Written → Bool
some_far w = any far (tokens w)

abbrev pub some_strange : Names → Written → Bool
some_strange ns w = any (strange ns) (tokens w)

abbrev pub marks_or_fault : Option Marks → Result Marks TextFault
marks_or_fault (Some marks) = Ok marks
marks_or_fault None = Err BadMark

-- the written marks, or the first fault that takes no domain to tell
abbrev pub text_fault : Bool → Names → Written → Result Marks TextFault
text_fault too_many ns w =
    cond (some_far w) (Err NumberOutside)
    (cond too_many (Err TooMany)
    (cond (some_strange ns w || known ns w.name.now) (Err BadName)
    (marks_or_fault w.marks)))

abbrev pub constant_of : Result ℕ DomainFault → Result Operand DomainFault
constant_of (Ok c) = Ok (Constant c)
constant_of (Err f) = Err f

abbrev pub meaning : Model → Names → Seen → Result Operand DomainFault
meaning m ns (is_name n) = Ok (named (place n ns.instructions) (place n ns.variables))
meaning m ns (is_number z) = constant_of (literal_code m z)
meaning m ns (is_code c) = constant_of (settled_code m c)
meaning m ns (is_word w) = Ok filler

-- the filler where there is no operand
abbrev pub meaning_or_filler : Model → Names → Option Seen → Result Operand DomainFault
meaning_or_filler m ns (Some t) = meaning m ns t
meaning_or_filler m ns None = Ok filler

abbrev pub meaning_at : Model → Names → List Seen → ℕ → Result Operand DomainFault
meaning_at m ns ts k = meaning_or_filler m ns (slice_get ts k)

abbrev pub and_then : {X Y E : Type 0} → Result X E → (X → Result Y E) → Result Y E
and_then (Ok x) f = f x
and_then (Err e) f = Err e

abbrev pub instruction_of : Model → Names → Marks → Written → Result Instruction DomainFault
instruction_of m ns marks w =
    and_then (meaning_at m ns (tokens w) 0)
    (λ x. and_then (meaning_at m ns (tokens w) 1)
    (λ y. and_then (meaning_at m ns (tokens w) 2)
    (λ z. Ok (record {
      operation = w.operation;
      marks = record { bits = bit_or (facts w.operation).unwritten marks.bits };
      first = x;
      second = y;
      third = z;
    }))))

-- a domain's fault gains its line
abbrev pub domain_on : {X : Type 0} → ℕ → Result X DomainFault → Result X ReadFault
domain_on line (Err f) = Err (Domain (record { line = line; fault = f }))
domain_on line (Ok x) = Ok x

-- and so does a text's, which comes first
abbrev pub found_on : {X Y : Type 0} → ℕ → Result X TextFault → (X → Result Y DomainFault) → Result Y ReadFault
found_on line (Err f) go = Err (Text (record { line = line; fault = f }))
found_on line (Ok x) go = domain_on line (go x)
