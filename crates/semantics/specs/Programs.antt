-- Programs, their outcomes, and when one refines another. Assumes nothing.
use Rattle.std.specs.Prelude.{◌≡◌, ℕ, suc, ◌<◌, ◌≤◌, Bool, true, false, cond, not, ◌&&◌, ◌||◌, T, List, [], ◌∷◌, map, length, ◌==◌, nat_lt, slice_index, Ok}
use Rattle.domain.specs.Model.{Model, OutcomeRefines, Outcome, trap}
use Rattle.vocabulary.specs.declared.operation.Operation.{Operation}
use Rattle.vocabulary.specs.declared.operation.Operation.TheVariants.{Add, Sub, Mul, Shl, Lshr, Ashr, Udiv, Urem, Sdiv, Srem, And, Or, Xor, Eq, Ne, Ult, Ule, Slt, Sle, Copy, Freeze, Select}
use Rattle.domain.specs.declared.Truth.{Truth}
use Rattle.domain.specs.declared.Truth.TheVariants.{Yes, No, Neither}
use Rattle.semantics.specs.declared.Operand.{Operand}
use Rattle.semantics.specs.declared.Operand.TheVariants.{Input, Record, Constant}
use Rattle.semantics.specs.declared.Instruction.{Instruction}

pub data Kind : Type 0 where
  binary copying freezing selecting : Kind

abbrev pub kind : Operation → Kind
kind Add = binary
kind Sub = binary
kind Mul = binary
kind Shl = binary
kind Lshr = binary
kind Ashr = binary
kind Udiv = binary
kind Urem = binary
kind Sdiv = binary
kind Srem = binary
kind And = binary
kind Or = binary
kind Xor = binary
kind Eq = binary
kind Ne = binary
kind Ult = binary
kind Ule = binary
kind Slt = binary
kind Sle = binary
kind Copy = copying
kind Freeze = freezing
kind Select = selecting

-- an instruction in its record
pub record Placed : Type 0 where
  pub at : ℕ
  pub what : Instruction

pub record Program : Type 0 where
  pub inputs : ℕ
  pub body : List Placed
  pub result : ℕ

-- the value of each record so far
abbrev pub Env : Type 0
Env = ℕ → ℕ

abbrev pub put : Env → ℕ → ℕ → Env
put ρ r v k = cond (k == r) v (ρ k)

abbrev pub value : List ℕ → Env → Operand → ℕ
value ins ρ (Input k) = slice_index ins k
value ins ρ (Record r) = ρ r
value ins ρ (Constant c) = c

abbrev pub pick : Truth → ℕ → ℕ → ℕ → ℕ
pick Yes a b w = a
pick No a b w = b
pick Neither a b w = w

abbrev pub step_of : Kind → Model → (Operand → ℕ) → Instruction → ℕ → Outcome
step_of binary m val i c = m.compute i.operation i.marks.bits (val i.first) (val i.second)
step_of copying m val i c = Ok (val i.first)
step_of freezing m val i c = Ok (cond (m.settled (val i.first)) (val i.first) c)
step_of selecting m val i c = Ok (pick (m.truth (val i.first)) (val i.second) (val i.third) m.worst)

-- what one instruction gives, where `c` is the choice at hand
abbrev pub step : Model → (Operand → ℕ) → Instruction → ℕ → Outcome
step m val i c = step_of (kind i.operation) m val i c

abbrev pub freeze_kind : Kind → Bool
freeze_kind binary = false
freeze_kind copying = false
freeze_kind freezing = true
freeze_kind selecting = false

abbrev pub is_freeze : Instruction → Bool
is_freeze i = freeze_kind (kind i.operation)

abbrev pub head : List ℕ → ℕ
head [] = 0
head (c ∷ cs) = c

abbrev pub tail : List ℕ → List ℕ
tail [] = []
tail (c ∷ cs) = cs

-- the choices left after an instruction
abbrev pub left : Instruction → List ℕ → List ℕ
left i cs = cond (is_freeze i) (tail cs) cs

-- a trap ends the run
abbrev pub and_then : Outcome → (ℕ → Outcome) → Outcome
and_then (Ok v) k = k v
and_then trap k = trap

-- a run of a body: the first trap makes the whole outcome a trap, and otherwise the result's value is the outcome
abbrev pub run : Model → List ℕ → ℕ → List Placed → Env → List ℕ → Outcome
run m ins result [] ρ cs = Ok (ρ result)
run m ins result (x ∷ xs) ρ cs = and_then (step m (value ins ρ) x.what (head cs)) (λ v. run m ins result xs (put ρ x.at v) (left x.what cs))

-- no record has a value before the run
abbrev pub nothing_yet : Env
nothing_yet r = 0

abbrev pub outcome : Model → Program → List ℕ → List ℕ → Outcome
outcome m p ins cs = run m ins p.result p.body nothing_yet cs

-- how many freezes a body has
abbrev pub freezes : List Placed → ℕ
freezes [] = 0
freezes (x ∷ xs) = cond (is_freeze x.what) (suc (freezes xs)) (freezes xs)

abbrev pub All : {A : Type 0} → (A → Type 0) → List A → Type 0
All P [] = Unit {0}
All P (x ∷ xs) = P x × All P xs

abbrev pub all : {A : Type 0} → (A → Bool) → List A → Bool
all t [] = true
all t (x ∷ xs) = t x && all t xs

pub record Inputs (m : Model) (p : Program) (ins : List ℕ) : Type 0 where
  pub count : length ins ≡ p.inputs
  pub codes : All (λ c. c < m.size) ins

pub record Choices (m : Model) (p : Program) (cs : List ℕ) : Type 0 where
  pub count : length cs ≡ freezes p.body
  pub settled : All (λ c. T (m.settled c)) cs

-- the outcome at given inputs and choices, or the number of the refusal
pub data Evaluated : Type 0 where
  evaluated : Outcome → Evaluated
  unevaluated : ℕ → Evaluated

abbrev pub evaluation : Model → Program → List ℕ → List ℕ → Evaluated
evaluation m p ins cs =
    cond (length ins == p.inputs && length cs == freezes p.body)
    (cond (all (λ c. nat_lt c m.size) ins && all m.settled cs) (evaluated (outcome m p ins cs)) (unevaluated 21))
    (unevaluated 20)

-- the first program refines the second
pub record Refines (m : Model) (q p : Program) : Type 0 where
  pub inputs : q.inputs ≡ p.inputs
  pub each : (ins cs : List ℕ) → Inputs m q ins → Choices m q cs → (ds : List ℕ) × Choices m p ds × OutcomeRefines m (outcome m q ins cs) (outcome m p ins ds)

abbrev pub reads_of : Kind → Instruction → List Operand
reads_of binary i = i.first ∷ i.second ∷ []
reads_of copying i = i.first ∷ []
reads_of freezing i = i.first ∷ []
reads_of selecting i = i.first ∷ i.second ∷ i.third ∷ []

-- the operands that an instruction reads
abbrev pub reads : Instruction → List Operand
reads i = reads_of (kind i.operation) i

abbrev pub has : ℕ → List ℕ → Bool
has r [] = false
has r (x ∷ xs) = r == x || has r xs

-- all but s
abbrev pub without : ℕ → List ℕ → List ℕ
without s [] = []
without s (x ∷ xs) = cond (x == s) (without s xs) (x ∷ without s xs)

-- an operand may be read where `earlier` are the records of the instructions before
abbrev pub Readable : Model → ℕ → List ℕ → Operand → Type 0
Readable m n earlier (Input k) = k < n
Readable m n earlier (Record r) = T (has r earlier)
Readable m n earlier (Constant c) = T (m.settled c)

-- each instruction stands in a record of its own, 1 to 64, and reads inputs, earlier instructions and constants
abbrev pub Ordered : Model → ℕ → List ℕ → List Placed → Type 0
Ordered m n earlier [] = Unit {0}
Ordered m n earlier (x ∷ xs) = (1 ≤ x.at) × (x.at ≤ 64) × T (not (has x.at earlier)) × All (Readable m n earlier) (reads x.what) × Ordered m n (x.at ∷ earlier) xs

abbrev pub records : List Placed → List ℕ
records xs = map (λ x. x.at) xs

pub record Formed (m : Model) (p : Program) : Type 0 where
  pub few_inputs : p.inputs ≤ 8
  pub some : 1 ≤ length p.body
  pub few : length p.body ≤ 64
  pub ordered : Ordered m p.inputs [] p.body
  pub has_result : T (has p.result (records p.body))
