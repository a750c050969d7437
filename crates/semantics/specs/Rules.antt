-- Rules, refuting cases, fitting and rewriting. Assumes nothing.
use Rattle.std.specs.Prelude.{◌≡◌, ℕ, suc, ◌-◌, ◌<◌, ◌≤◌, Bool, false, cond, not, ◌||◌, T, ◌⊎◌, List, [], ◌∷◌, ◌++◌, map, length, ◌==◌, slice_index}
use Rattle.domain.specs.Model.{Model, OutcomeRefines}
use Rattle.semantics.specs.Programs.{Placed, Program, Inputs, Choices, Refines, Formed, All, outcome, reads, has, records}
use Rattle.semantics.specs.declared.Operand.{Operand}
use Rattle.semantics.specs.declared.Operand.TheVariants.{Input, Record, Constant}
use Rattle.semantics.specs.declared.Instruction.{Instruction}

-- a rule: in both sides an operand `Input k` is the k-th variable and `Record j` the side's own j-th instruction, from 1
pub record Rule : Type 0 where
  pub variables : ℕ
  pub source : List Instruction
  pub target : List Instruction

abbrev pub numbered : ℕ → List Instruction → List Placed
numbered k [] = []
numbered k (i ∷ is) = record { at = k; what = i } ∷ numbered (suc k) is

-- a side taken as a program: its variables are the inputs, and its last instruction is the result
abbrev pub side : ℕ → List Instruction → Program
side n is = record { inputs = n; body = numbered 1 is; result = length is }

abbrev pub source_of : Rule → Program
source_of r = side r.variables r.source

abbrev pub target_of : Rule → Program
target_of r = side r.variables r.target

-- a case refutes: no source choices let the target's outcome refine the source's
pub record Refutes (m : Model) (r : Rule) (vars cs : List ℕ) : Type 0 where
  pub codes : Inputs m (target_of r) vars
  pub choices : Choices m (target_of r) cs
  pub none : (ds : List ℕ) → Choices m (source_of r) ds → OutcomeRefines m (outcome m (target_of r) vars cs) (outcome m (source_of r) vars ds) → ⊥

-- an operand reads one of some records
abbrev pub reads_one : List ℕ → Operand → Bool
reads_one rs (Input k) = false
reads_one rs (Record r) = has r rs
reads_one rs (Constant c) = false

abbrev pub any_reads : List ℕ → List Operand → Bool
any_reads rs [] = false
any_reads rs (o ∷ os) = reads_one rs o || any_reads rs os

-- some later instruction of the list reads this one
abbrev pub read_in : ℕ → List Placed → Bool
read_in k [] = false
read_in k (x ∷ xs) = any_reads (k ∷ []) (reads x.what) || read_in k xs

-- every instruction but the last is read by a later one
abbrev pub AllRead : List Placed → Type 0
AllRead [] = Unit {0}
AllRead (x ∷ []) = Unit {0}
AllRead (x ∷ y ∷ xs) = T (read_in x.at (y ∷ xs)) × AllRead (y ∷ xs)

-- some instruction of the list reads the v-th variable
abbrev pub reads_variable : ℕ → List Operand → Bool
reads_variable v [] = false
reads_variable v (Input k ∷ os) = k == v || reads_variable v os
reads_variable v (Record r ∷ os) = reads_variable v os
reads_variable v (Constant c ∷ os) = reads_variable v os

abbrev pub variable_in : ℕ → List Instruction → Bool
variable_in v [] = false
variable_in v (i ∷ is) = reads_variable v (reads i) || variable_in v is

pub record WellMade (m : Model) (r : Rule) : Type 0 where
  pub few_variables : r.variables ≤ 4
  pub source_formed : Formed m (source_of r)
  pub target_formed : Formed m (target_of r)
  pub source_few : length r.source ≤ 8
  pub target_few : length r.target ≤ 8
  pub all_read : AllRead (numbered 1 r.source)
  pub all_used : (v : ℕ) → v < r.variables → T (variable_in v r.source)

-- where a rule fits: the record matched with each source instruction, and the operand that each variable takes
pub record Match : Type 0 where
  pub record_of : ℕ → ℕ
  pub operand_of : ℕ → Operand

-- an operand of the source against the one that stands there
abbrev pub Agrees : Match → Operand → Operand → Type 0
Agrees w (Input v) o = o ≡ w.operand_of v
Agrees w (Record j) o = o ≡ Record (w.record_of j)
Agrees w (Constant c) o = o ≡ Constant c

abbrev pub Agree : Match → List Operand → List Operand → Type 0
Agree w [] [] = Unit {0}
Agree w [] (o ∷ os) = ⊥
Agree w (s ∷ ss) [] = ⊥
Agree w (s ∷ ss) (o ∷ os) = Agrees w s o × Agree w ss os

-- instruction i stands in record r
abbrev pub Stands : List Placed → ℕ → Instruction → Type 0
Stands [] r i = ⊥
Stands (x ∷ xs) r i = ((x.at ≡ r) × (x.what ≡ i)) ⊎ Stands xs r i

-- two instructions are alike: same operation, same marks, agreeing operands
abbrev pub Alike : Match → Instruction → Instruction → Type 0
Alike w s i = (i.operation ≡ s.operation) × (i.marks ≡ s.marks) × Agree w (reads s) (reads i)

-- a source instruction is matched with one like it in its record
abbrev pub Matched : Match → List Placed → Placed → Type 0
Matched w body s = (i : Instruction) × Stands body (w.record_of s.at) i × Alike w s.what i

abbrev pub Distinct : List ℕ → Type 0
Distinct [] = Unit {0}
Distinct (x ∷ xs) = T (not (has x xs)) × Distinct xs

-- all but the last
abbrev pub front : {A : Type 0} → List A → List A
front [] = []
front (x ∷ []) = []
front (x ∷ y ∷ xs) = x ∷ front (y ∷ xs)

-- the records of all matches, and of all but the last
abbrev pub matches : Match → Rule → List ℕ
matches w r = map (λ s. w.record_of s.at) (numbered 1 r.source)

abbrev pub removed : Match → Rule → List ℕ
removed w r = front (matches w r)

-- the five points of fitting at the instruction in record p
pub record Fits (p : Program) (r : Rule) (at : ℕ) (w : Match) : Type 0 where
  pub at_last : w.record_of (length r.source) ≡ at
  pub same : All (Matched w p.body) (numbered 1 r.source)
  pub outside : (v : ℕ) → v < r.variables → T (not (reads_one (matches w r) (w.operand_of v)))
  pub apart : Distinct (matches w r)
  pub unread : All (λ x. T (has x.at (matches w r)) ⊎ T (not (any_reads (removed w r) (reads x.what)))) p.body
  pub no_result : T (not (has p.result (removed w r)))

-- the record of the target's j-th instruction: the last takes the place of the match, the others new records
abbrev pub home : List ℕ → ℕ → ℕ → ℕ → ℕ
home fresh at n j = cond (j == n) at (slice_index fresh (j - 1))

abbrev pub moved : Match → (ℕ → ℕ) → Operand → Operand
moved w h (Input v) = w.operand_of v
moved w h (Record j) = Record (h j)
moved w h (Constant c) = Constant c

abbrev pub placed : Match → (ℕ → ℕ) → Placed → Placed
placed w h x = record {
  at = h x.at;
  what = record {
    operation = x.what.operation;
    marks = x.what.marks;
    first = moved w h x.what.first;
    second = moved w h x.what.second;
    third = moved w h x.what.third;
  };
}

abbrev pub block : Rule → Match → ℕ → List ℕ → List Placed
block r w at fresh = map (placed w (home fresh at (length r.target))) (numbered 1 r.target)

-- all matches but the one at p go, and the target's instructions stand in the place of that
abbrev pub spliced : List ℕ → ℕ → List Placed → List Placed → List Placed
spliced gone at new [] = []
spliced gone at new (x ∷ xs) = cond (x.at == at) (new ++ spliced gone at new xs) (cond (has x.at gone) (spliced gone at new xs) (x ∷ spliced gone at new xs))

abbrev pub rewritten : Program → Rule → ℕ → Match → List ℕ → Program
rewritten p r at w fresh = record {
  inputs = p.inputs;
  body = spliced (removed w r) at (block r w at fresh) p.body;
  result = p.result;
}

-- the new records are free: none of an instruction that stays
pub record Fresh (p : Program) (r : Rule) (at : ℕ) (w : Match) (fresh : List ℕ) : Type 0 where
  pub enough : suc (length fresh) ≡ length r.target
  pub distinct : Distinct fresh
  pub within : All (λ k. (1 ≤ k) × (k ≤ 64)) fresh
  pub free : All (λ k. T (not (has k (records (spliced (removed w r) at [] p.body)))) × T (not (k == at))) fresh

-- a rule with no refuting case refines wherever it fits
abbrev pub Contextual : Model → Type 0
Contextual m =
    (r : Rule) → WellMade m r → Refines m (target_of r) (source_of r) →
    (p : Program) → Formed m p → (at : ℕ) (w : Match) → Fits p r at w → (fresh : List ℕ) → Fresh p r at w fresh →
    Refines m (rewritten p r at w fresh) p

-- what rewriting gives is again a program, where 64 instructions suffice
abbrev pub StaysFormed : Model → Type 0
StaysFormed m =
    (r : Rule) → WellMade m r →
    (p : Program) → Formed m p → (at : ℕ) (w : Match) → Fits p r at w → (fresh : List ℕ) → Fresh p r at w fresh →
    length (rewritten p r at w fresh).body ≤ 64 → Formed m (rewritten p r at w fresh)

-- a program with a rule's variables as inputs, run at a case, gives an outcome that refines none of the source's for the case's inputs
pub record FailsAt (m : Model) (r : Rule) (q : Program) (vars cs : List ℕ) : Type 0 where
  pub formed : Formed m q
  pub inputs : Inputs m q vars
  pub choices : Choices m q cs
  pub none : (ds : List ℕ) → Choices m (source_of r) ds → OutcomeRefines m (outcome m q vars cs) (outcome m (source_of r) vars ds) → ⊥

-- a rule is convicted at a case by its own source, taken as a program: it fits there at the last instruction, there are new records
-- for the target, and whichever are taken, the rewritten source fails at the case
pub record ConvictedAt (m : Model) (r : Rule) (vars cs : List ℕ) : Type 0 where
  pub match : Match
  pub fits : Fits (source_of r) r (length r.source) match
  pub room : (fresh : List ℕ) × Fresh (source_of r) r (length r.source) match fresh
  pub fails : (fresh : List ℕ) → Fresh (source_of r) r (length r.source) match fresh → FailsAt m r (rewritten (source_of r) r (length r.source) match fresh) vars cs

-- so is every refuted rule
abbrev pub Convicted : Model → Type 0
Convicted m = (r : Rule) → WellMade m r → (vars cs : List ℕ) → Refutes m r vars cs → ConvictedAt m r vars cs
