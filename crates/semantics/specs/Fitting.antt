-- Where a rule fits, found by computation: the one match that can fit, tested point by point. Assumes nothing.
use Rattle.std.specs.Prelude.{◌≡◌, ℕ, zero, suc, ◌<◌, ◌≤◌, Bool, true, false, cond, not, ◌&&◌, ◌||◌, T, ◌⊎◌, ◌↔◌, List, [], ◌∷◌, length, Some, None, Option, ◌==◌}
use Rattle.domain.specs.Model.{Model}
use Rattle.semantics.specs.Programs.{Placed, Program, Formed, All, all, put, reads, has}
use Rattle.semantics.specs.Rules.{Rule, WellMade, numbered, Match, Stands, Distinct, matches, removed, reads_one, any_reads, Fits}
use Rattle.vocabulary.specs.Names.{number_of}
use Rattle.semantics.specs.declared.Operand.{Operand}
use Rattle.semantics.specs.declared.Operand.TheVariants.{Input, Record, Constant}
use Rattle.semantics.specs.declared.Instruction.{Instruction}

-- The points of fitting, two by two.

-- two lists of operands agree, one by one
abbrev pub Pairwise : (Operand → Operand → Type 0) → List Operand → List Operand → Type 0
Pairwise P [] [] = Unit {0}
Pairwise P [] (o ∷ os) = ⊥
Pairwise P (s ∷ ss) [] = ⊥
Pairwise P (s ∷ ss) (o ∷ os) = P s o × Pairwise P ss os

-- a source name meets the instruction that it is matched with, a constant one of the same code
abbrev pub Named : Match → Operand → Operand → Type 0
Named w (Input v) o = Unit {0}
Named w (Record j) o = o ≡ Record (w.record_of j)
Named w (Constant c) o = o ≡ Constant c

-- a variable meets the operand that it takes
abbrev pub Takes : Match → Operand → Operand → Type 0
Takes w (Input v) o = o ≡ w.operand_of v
Takes w (Record j) o = Unit {0}
Takes w (Constant c) o = Unit {0}

-- an instruction stands in record r, and P holds of it
abbrev pub Holds : List Placed → ℕ → (Instruction → Type 0) → Type 0
Holds body r P = (i : Instruction) × Stands body r i × P i

abbrev pub Like : Match → Instruction → Instruction → Type 0
Like w s i = (i.operation ≡ s.operation) × (i.marks ≡ s.marks) × Pairwise (Named w) (reads s) (reads i)

abbrev pub Taking : Match → Instruction → Instruction → Type 0
Taking w s i = Pairwise (Takes w) (reads s) (reads i)

-- points 1 and 2
pub record Points1To2 (p : Program) (r : Rule) (at : ℕ) (w : Match) : Type 0 where
  pub at_last : w.record_of (length r.source) ≡ at
  pub same : All (λ s. Holds p.body (w.record_of s.at) (Like w s.what)) (numbered 1 r.source)

-- points 3 and 4
pub record Points3To4 (p : Program) (r : Rule) (w : Match) : Type 0 where
  pub taken : All (λ s. Holds p.body (w.record_of s.at) (Taking w s.what)) (numbered 1 r.source)
  pub outside : (v : ℕ) → v < r.variables → T (not (reads_one (matches w r) (w.operand_of v)))
  pub apart : Distinct (matches w r)

-- point 5
pub record Point5 (p : Program) (r : Rule) (w : Match) : Type 0 where
  pub unread : All (λ x. T (has x.at (matches w r)) ⊎ T (not (any_reads (removed w r) (reads x.what)))) p.body
  pub no_result : T (not (has p.result (removed w r)))

-- The one match that can fit: walk the source from its last instruction down, and learn from each operand what it meets.

-- the instruction in a record
abbrev pub look : List Placed → ℕ → Option Instruction
look [] r = None
look (x ∷ xs) r = cond (x.at == r) (Some x.what) (look xs r)

abbrev pub learn : Operand → Operand → Match → Match
learn (Input v) o w = record { record_of = w.record_of; operand_of = λ k. cond (k == v) o (w.operand_of k) }
learn (Record j) (Input k) w = w
learn (Record j) (Record q) w = record { record_of = put w.record_of j q; operand_of = w.operand_of }
learn (Record j) (Constant c) w = w
learn (Constant c) o w = w

abbrev pub learn_all : List Operand → List Operand → Match → Match
learn_all [] os w = w
learn_all (s ∷ ss) [] w = w
learn_all (s ∷ ss) (o ∷ os) w = learn_all ss os (learn s o w)

abbrev pub learn_from : Instruction → Option Instruction → Match → Match
learn_from s None w = w
learn_from s (Some i) w = learn_all (reads s) (reads i) w

abbrev pub walk : List Placed → List Placed → Match → Match
walk body [] w = w
walk body (s ∷ ss) w = let later = walk body ss w in learn_from s.what (look body (later.record_of s.at)) later

-- at first only the last source instruction is matched
abbrev pub candidate : Program → Rule → ℕ → Match
candidate p r at = walk p.body (numbered 1 r.source) (record { record_of = put (λ j. 0) (length r.source) at; operand_of = Input })

-- The points as tests.

abbrev pub same_operand : Operand → Operand → Bool
same_operand (Input a) (Input b) = a == b
same_operand (Input a) (Record b) = false
same_operand (Input a) (Constant b) = false
same_operand (Record a) (Input b) = false
same_operand (Record a) (Record b) = a == b
same_operand (Record a) (Constant b) = false
same_operand (Constant a) (Input b) = false
same_operand (Constant a) (Record b) = false
same_operand (Constant a) (Constant b) = a == b

abbrev pub pairwise : (Operand → Operand → Bool) → List Operand → List Operand → Bool
pairwise t [] [] = true
pairwise t [] (o ∷ os) = false
pairwise t (s ∷ ss) [] = false
pairwise t (s ∷ ss) (o ∷ os) = t s o && pairwise t ss os

abbrev pub named : Match → Operand → Operand → Bool
named w (Input v) o = true
named w (Record j) o = same_operand o (Record (w.record_of j))
named w (Constant c) o = same_operand o (Constant c)

abbrev pub takes : Match → Operand → Operand → Bool
takes w (Input v) o = same_operand o (w.operand_of v)
takes w (Record j) o = true
takes w (Constant c) o = true

abbrev pub passes : (Instruction → Bool) → Option Instruction → Bool
passes t None = false
passes t (Some i) = t i

abbrev pub like : Match → Instruction → Instruction → Bool
like w s i = number_of i.operation == number_of s.operation && (i.marks.bits == s.marks.bits && pairwise (named w) (reads s) (reads i))

abbrev pub taking : Match → Instruction → Instruction → Bool
taking w s i = pairwise (takes w) (reads s) (reads i)

abbrev pub all_below : ℕ → (ℕ → Bool) → Bool
all_below zero t = true
all_below (suc n) t = t n && all_below n t

abbrev pub distinct : List ℕ → Bool
distinct [] = true
distinct (x ∷ xs) = not (has x xs) && distinct xs

abbrev pub passes_1_2 : Program → Rule → ℕ → Match → Bool
passes_1_2 p r at w = w.record_of (length r.source) == at && all (λ s. passes (like w s.what) (look p.body (w.record_of s.at))) (numbered 1 r.source)

abbrev pub passes_3_4 : Program → Rule → Match → Bool
passes_3_4 p r w =
    all (λ s. passes (taking w s.what) (look p.body (w.record_of s.at))) (numbered 1 r.source)
    && (all_below r.variables (λ v. not (reads_one (matches w r) (w.operand_of v))) && distinct (matches w r))

abbrev pub passes_5 : Program → Rule → Match → Bool
passes_5 p r w = all (λ x. has x.at (matches w r) || not (any_reads (removed w r) (reads x.what))) p.body && not (has p.result (removed w r))

-- a match, or the number of the refusal
pub data Fitted : Type 0 where
  matched : Match → Fitted
  unfit : ℕ → Fitted

-- where a rule fits at a record of a program: the smallest number whose points fail is told
abbrev pub fit : Program → Rule → ℕ → Fitted
fit p r at =
    let w = candidate p r at in
    cond (passes_1_2 p r at w) (cond (passes_3_4 p r w) (cond (passes_5 p r w) (matched w) (unfit 18)) (unfit 17)) (unfit 16)

-- What `fit` answers.

-- two matches agree on a rule's source instructions and variables
pub record SameMatch (r : Rule) (w w2 : Match) : Type 0 where
  pub records : (j : ℕ) → 1 ≤ j → j ≤ length r.source → w.record_of j ≡ w2.record_of j
  pub operands : (v : ℕ) → v < r.variables → w.operand_of v ≡ w2.operand_of v

-- some match has the points, or none has them
abbrev pub SomeMatch : (Match → Type 0) → Type 0
SomeMatch P = (w : Match) × P w

abbrev pub NoMatch : (Match → Type 0) → Type 0
NoMatch P = (w : Match) → P w → ⊥

-- the first four points
abbrev pub Points1To4 : Program → Rule → ℕ → Match → Type 0
Points1To4 p r at w = Points1To2 p r at w × Points3To4 p r w

-- the right answer at a record
pub record RightFit (p : Program) (r : Rule) (at : ℕ) (answer : Fitted) : Type 0 where
  pub fits : (w : Match) → answer ≡ matched w → Fits p r at w
  pub finds : (w : Match) → Fits p r at w → (found : Match) × (answer ≡ matched found) × SameMatch r found w
  pub sixteen : (answer ≡ unfit 16) ↔ NoMatch (Points1To2 p r at)
  pub seventeen : (answer ≡ unfit 17) ↔ (SomeMatch (Points1To2 p r at) × NoMatch (Points1To4 p r at))
  pub eighteen : (answer ≡ unfit 18) ↔ (SomeMatch (Points1To4 p r at) × NoMatch (Fits p r at))
  pub points : (w : Match) → Fits p r at w ↔ (Points1To2 p r at w × Points3To4 p r w × Point5 p r w)

-- `fit` answers right at any record
abbrev pub FittingExact : Model → Type 0
FittingExact m = (r : Rule) → WellMade m r → (p : Program) → Formed m p → (at : ℕ) → RightFit p r at (fit p r at)
