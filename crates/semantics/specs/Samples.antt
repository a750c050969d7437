-- The definitions at work, over the house pile of width 2: the mistakes that tempt, and each refusal of a rewriting. Assumes nothing.
use Rattle.std.specs.Prelude.{◌≡◌, ℕ, true, List, [], ◌∷◌, replicate, Some, None, Ok}
use Rattle.vocabulary.specs.declared.operation.Operation.{Operation}
use Rattle.vocabulary.specs.declared.operation.Operation.TheVariants.{Add, Sub, Copy, Freeze}
use Rattle.domain.specs.Model.{Model}
use Rattle.words.specs.Words.{words}
use Rattle.layers.specs.Layers.{poisoned}
use Rattle.semantics.specs.declared.Operand.{Operand}
use Rattle.semantics.specs.declared.Operand.TheVariants.{Input, Record, Constant}
use Rattle.semantics.specs.declared.Instruction.{Instruction}
use Rattle.semantics.specs.Programs.{Program, outcome, all}
use Rattle.semantics.specs.Rules.{Rule, numbered, target_of}
use Rattle.semantics.specs.Fitting.{fit, unfit}
use Rattle.semantics.specs.Cases.{first_refuting, case_number, outcome_refining, settled_codes}
use Rattle.semantics.specs.Changes.{freed, unchanged, rewrite_at}

-- codes 0 to 3, and poison, which is 4
abbrev pub house2 : Model
house2 = poisoned (words 2) 15

abbrev pub plain : Operation → Operand → Operand → Instruction
plain op a b = record { operation = op; marks = record { bits = 0 }; first = a; second = b; third = Constant 0 }

abbrev pub freeze : Operand → Instruction
freeze a = plain Freeze a (Constant 0)

abbrev pub copy : Operand → Instruction
copy a = plain Copy a (Constant 0)

abbrev pub program : ℕ → List Instruction → ℕ → Program
program n is result = record { inputs = n; body = numbered 1 is; result = result }

-- a freeze turned into a freeze, and into a copy
abbrev pub frozen : Rule
frozen = record { variables = 1; source = freeze (Input 0) ∷ []; target = freeze (Input 0) ∷ [] }

abbrev pub thawed : Rule
thawed = record { variables = 1; source = freeze (Input 0) ∷ []; target = copy (Input 0) ∷ [] }

-- one freeze read twice turned into two freezes, and two into one
abbrev pub split : Rule
split = record {
  variables = 1;
  source = freeze (Input 0) ∷ plain Sub (Record 1) (Record 1) ∷ [];
  target = freeze (Input 0) ∷ freeze (Input 0) ∷ plain Sub (Record 1) (Record 2) ∷ [];
}

abbrev pub joined : Rule
joined = record {
  variables = 1;
  source = freeze (Input 0) ∷ freeze (Input 0) ∷ plain Sub (Record 1) (Record 2) ∷ [];
  target = freeze (Input 0) ∷ plain Sub (Record 1) (Record 1) ∷ [];
}

-- the difference of two freezes turned round, with two new freezes
abbrev pub swapped : Rule
swapped = record {
  variables = 1;
  source = freeze (Input 0) ∷ freeze (Input 0) ∷ plain Sub (Record 1) (Record 2) ∷ [];
  target = freeze (Input 0) ∷ freeze (Input 0) ∷ plain Sub (Record 2) (Record 1) ∷ [];
}

-- a difference of one freeze with itself, which is always 0
abbrev pub difference : Program
difference = program 1 (freeze (Input 0) ∷ plain Sub (Record 1) (Record 1) ∷ []) 2

-- -y + x turned into x - y
abbrev pub negated : Rule
negated = record {
  variables = 2;
  source = plain Sub (Constant 0) (Input 0) ∷ plain Add (Record 1) (Input 1) ∷ [];
  target = plain Sub (Input 1) (Input 0) ∷ [];
}

-- a copy turned into two
abbrev pub grown : Rule
grown = record { variables = 1; source = copy (Input 0) ∷ []; target = copy (Input 0) ∷ copy (Record 1) ∷ [] }

pub record Samples : Type 0 where
  -- each side has choices of its own, so that a freeze may stay a freeze; a copy in its place is refuted at poison
  pub own_choices : first_refuting house2 frozen ≡ None
  pub no_copy : first_refuting house2 thawed ≡ Some (record { vars = 4 ∷ []; choices = [] })
  -- two freezes of one operand may differ, so that one cannot become two, while two may become one
  pub no_split : first_refuting house2 split ≡ Some (record { vars = 4 ∷ []; choices = 0 ∷ 1 ∷ [] })
  pub may_join : first_refuting house2 joined ≡ None
  -- 5 codes, and 4 choices for each of three freezes
  pub counted : case_number house2 split ≡ 320
  -- a sound rule whose two source freezes must not match one freeze (17): its target could then give 1 at poison, where the program gives 0
  pub swap_sound : first_refuting house2 swapped ≡ None
  pub one_freeze : fit difference swapped 2 ≡ unfit 17
  pub swap_gives : outcome house2 (target_of swapped) (4 ∷ []) (0 ∷ 1 ∷ []) ≡ Ok 1
  pub always_zero : all (λ c. outcome_refining house2 (outcome house2 difference (4 ∷ []) (c ∷ [])) (Ok 0)) (settled_codes house2) ≡ true
  -- a variable does not take a removed instruction: 17
  pub on_removed : fit (program 1 (plain Sub (Constant 0) (Input 0) ∷ plain Add (Record 1) (Record 1) ∷ []) 2) negated 2 ≡ unfit 17
  -- a source name does not meet two instructions: 16
  pub one_name : fit (program 1 (freeze (Input 0) ∷ freeze (Input 0) ∷ plain Sub (Record 1) (Record 2) ∷ []) 3) split 3 ≡ unfit 16
  -- a match that is the result, and one that an unmatched instruction reads: 18
  pub is_result : fit (program 2 (plain Sub (Constant 0) (Input 0) ∷ plain Add (Record 1) (Input 1) ∷ []) 1) negated 2 ≡ unfit 18
  pub is_read : fit (program 2 (plain Sub (Constant 0) (Input 0) ∷ plain Add (Record 1) (Input 1) ∷ copy (Record 1) ∷ []) 3) negated 2 ≡ unfit 18
  -- over 64 instructions afterwards: 19
  pub no_room : rewrite_at (record { program = program 1 (replicate 64 (copy (Input 0))) 64; free = [] }) grown 7 ≡ unchanged 19
  -- what is freed last is taken first
  pub last_freed : freed (2 ∷ 5 ∷ []) (7 ∷ []) ≡ 5 ∷ 2 ∷ 7 ∷ []
