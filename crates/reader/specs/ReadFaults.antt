-- Refusals of a reader as faults: each by its number, its layer and its line. Assumes nothing.
use Rattle.std.specs.Prelude.{◌≡◌, ℕ, Ok, Err, Result}
use Rattle.domain.specs.Faults.{fault_number}
use Rattle.text.specs.Faults.{Fault, text_layer, domain_layer, Step, next, wrong}
use Rattle.reader.specs.declared.fault.TextFault.{TextFault}
use Rattle.reader.specs.declared.fault.TextFault.TheVariants.{TooLong, NoForm, NumberOutside, TooMany, BadName, BadMark}
use Rattle.reader.specs.declared.fault.At.{At}
use Rattle.reader.specs.declared.fault.ReadFault.{ReadFault}
use Rattle.reader.specs.declared.fault.ReadFault.TheVariants.{Text, Domain}

abbrev pub text_number : TextFault → ℕ
text_number TooLong = 1
text_number NoForm = 2
text_number NumberOutside = 3
text_number TooMany = 4
text_number BadName = 5
text_number BadMark = 6

-- a text's fault is told by the layer of texts, and a domain's by that of domains
abbrev pub read_fault : ReadFault → Fault
read_fault (Text at) = record { number = text_number at.fault; layer = text_layer; line = at.line }
read_fault (Domain at) = record { number = fault_number at.fault; layer = domain_layer; line = at.line }

abbrev pub located : {X F : Type 0} → ℕ → Result X F → Result X (At F)
located line (Ok x) = Ok x
located line (Err f) = Err (record { line = line; fault = f })

-- what a call on a line answered, as a step
abbrev pub answered : {X : Type 0} → Result X ReadFault → Step X
answered (Ok x) = next x
answered (Err f) = wrong (read_fault f).number

-- the same of a call whose answer is the state that it leaves
abbrev pub left_at : {X S : Type 0} → S → Result X ReadFault → Step S
left_at s (Ok x) = next s
left_at s (Err f) = wrong (read_fault f).number

-- a refusal tells its line
abbrev pub OnLine : {X : Type 0} → ℕ → Result X ReadFault → Type 0
OnLine line (Ok x) = Unit {0}
OnLine line (Err f) = (read_fault f).line ≡ line
