-- A value domain by what it answers, and the laws that it keeps. Assumes nothing.
use Rattle.std.specs.Prelude.{◌≡◌, ℕ, ◌<◌, ◌≤◌, Bool, T, ◌⊎◌, ℤ, Some, Option, bit_and, Ok, Err, Result}
use Rattle.vocabulary.specs.declared.operation.Operation.{Operation}
use Rattle.vocabulary.specs.declared.operation.Operation.TheVariants.{Copy, Freeze, Select}
use Rattle.domain.specs.declared.Trapped.{Trapped}
use Rattle.domain.specs.declared.Truth.{Truth}
use Rattle.domain.specs.declared.Truth.TheVariants.{Yes, No, Neither}

-- what an operation gives: a code, or a trap
abbrev pub Outcome : Type 0
Outcome = Result ℕ Trapped

pattern abbrev pub trap : Outcome
trap = Err record {}

-- the eight questions. Codes and sizes are numbers, and a set of marks is the sum of theirs
pub record Model : Type 0 where
  pub size : ℕ
  pub literal : ℤ → Option ℕ
  pub settled : ℕ → Bool
  pub refines : ℕ → ℕ → Bool
  pub truth : ℕ → Truth
  pub worst : ℕ
  pub broken : Operation → ℕ → ℕ → ℕ
  pub compute : Operation → ℕ → ℕ → ℕ → Outcome

-- every outcome refines a trap, and a trap refines nothing else; codes refine codes as the domain says
abbrev pub OutcomeRefines : Model → Outcome → Outcome → Type 0
OutcomeRefines m (Ok a) (Ok b) = T (m.refines a b)
OutcomeRefines m (Ok a) trap = Unit {0}
OutcomeRefines m trap (Ok b) = ⊥
OutcomeRefines m trap trap = Unit {0}

-- a set of marks lies within another
abbrev pub Within : ℕ → ℕ → Type 0
Within x y = bit_and x y ≡ x

-- an operand is no code, or the operation is none of the 19 on two codes
abbrev pub Outside : Model → Operation → ℕ → ℕ → Type 0
Outside m op a b = ((m.size ≤ a) ⊎ (m.size ≤ b)) ⊎ ((op ≡ Copy) ⊎ ((op ≡ Freeze) ⊎ (op ≡ Select)))

-- what a domain must show: six laws over all its codes, and the answers that are fixed outside them
pub record Lawful (m : Model) : Type 0 where
  -- there are 2 to 65,535 codes, and worst is one
  pub least_size : 2 ≤ m.size
  pub most_size : m.size ≤ 65535
  pub worst_code : m.worst < m.size
  -- 1: refines is reflexive and transitive
  pub refines_refl : (a : ℕ) → a < m.size → T (m.refines a a)
  pub refines_trans : (a b c : ℕ) → T (m.refines a b) → T (m.refines b c) → T (m.refines a c)
  -- 2: where operands refine others, so does the outcome, for every operation and set of marks
  pub compute_mono : (op : Operation) (marks a b a2 b2 : ℕ) → T (m.refines a a2) → T (m.refines b b2) → OutcomeRefines m (m.compute op marks a b) (m.compute op marks a2 b2)
  -- 3: and they break no other mark
  pub broken_mono : (op : Operation) (a b a2 b2 : ℕ) → T (m.refines a a2) → T (m.refines b b2) → Within (m.broken op a b) (m.broken op a2 b2)
  -- 4: what refines a code of truth yes or no has the same truth; if a code has truth neither, every code refines worst
  pub truth_yes : (a b : ℕ) → T (m.refines a b) → m.truth b ≡ Yes → m.truth a ≡ Yes
  pub truth_no : (a b : ℕ) → T (m.refines a b) → m.truth b ≡ No → m.truth a ≡ No
  pub worst_top : (c : ℕ) → c < m.size → m.truth c ≡ Neither → (a : ℕ) → a < m.size → T (m.refines a m.worst)
  -- 5: what refines a settled code is settled; some code is settled
  pub settled_down : (a b : ℕ) → T (m.refines a b) → T (m.settled b) → T (m.settled a)
  pub some_settled : (c : ℕ) × T (m.settled c)
  -- 6: the code of a literal is settled
  pub literal_settled : (z : ℤ) (c : ℕ) → m.literal z ≡ Some c → T (m.settled c)
  -- a number that is no code is not settled, refines nothing, is refined by nothing, and has truth neither
  pub settled_code : (a : ℕ) → T (m.settled a) → a < m.size
  pub refines_codes : (a b : ℕ) → T (m.refines a b) → (a < m.size) × (b < m.size)
  pub truth_code : (a : ℕ) → m.size ≤ a → m.truth a ≡ Neither
  -- a computed code is a code; outside the codes and the 19 operations computing traps and breaks no mark
  pub compute_code : (op : Operation) (marks a b c : ℕ) → m.compute op marks a b ≡ Ok c → c < m.size
  pub compute_outside : (op : Operation) (marks a b : ℕ) → Outside m op a b → m.compute op marks a b ≡ trap
  pub broken_outside : (op : Operation) (a b : ℕ) → Outside m op a b → m.broken op a b ≡ 0
