-- What a domain refuses. Assumes nothing.
use Rattle.std.specs.Prelude.{ℕ, cond, ℤ, Some, None, Ok, Err, Option, Result}
use Rattle.domain.specs.declared.fault.DomainFault.{DomainFault}
use Rattle.domain.specs.declared.fault.DomainFault.TheVariants.{NoSettledCode, WrongWidth}
use Rattle.domain.specs.Model.{Model}

-- the number by which a refusal is told
abbrev pub fault_number : DomainFault → ℕ
fault_number NoSettledCode = 7
fault_number WrongWidth = 22

-- a constant is a settled code
abbrev pub settled_code : Model → ℕ → Result ℕ DomainFault
settled_code m c = cond (m.settled c) (Ok c) (Err NoSettledCode)

abbrev pub settled_if_any : Model → Option ℕ → Result ℕ DomainFault
settled_if_any m (Some c) = settled_code m c
settled_if_any m None = Err NoSettledCode

abbrev pub literal_code : Model → ℤ → Result ℕ DomainFault
literal_code m z = settled_if_any m (m.literal z)
