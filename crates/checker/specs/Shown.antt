-- What the search reads and answers. Assumes nothing.
use Rattle.std.specs.Prelude.{◌≡◌, ℕ, Bool, List, [], ◌∷◌, length, take, drop, Some, None, Option}
use Rattle.domain.specs.Model.{Model, Outcome}
use Rattle.semantics.specs.Programs.{outcome}
use Rattle.semantics.specs.Rules.{side}
use Rattle.semantics.specs.Cases.{Case, outcome_refining}
use Rattle.semantics.specs.declared.Instruction.{Instruction}
use Rattle.checker.specs.Walks.{left, present}
use Rattle.checker.specs.declared.case.Case.{Case as Held}

-- a list of choices lets an outcome refine the source's
abbrev pub allows : Model → Outcome → List Instruction → List ℕ → List ℕ → Bool
allows m ours source vars ds = outcome_refining m ours (outcome m (side (length vars) source) vars ds)

-- the digits in use: those of the variables, then those of the choices
abbrev pub case_of : Held → Case
case_of c = record { vars = take c.variable_count c.digits; choices = take c.choice_count (drop c.variable_count c.digits) }

abbrev pub found : Option Held → Option Case
found None = None
found (Some c) = Some (case_of c)

-- the case that comes next: behind the present list come those from its list on, or none
abbrev pub Goes : List (List ℕ) → Held → Option Held → Type 0
Goes ds c None = left ds c.digits ≡ present ds c.digits ∷ []
Goes ds c (Some e) = (left ds c.digits ≡ present ds c.digits ∷ left ds e.digits) × (e.variable_count ≡ c.variable_count) × (e.choice_count ≡ c.choice_count)
