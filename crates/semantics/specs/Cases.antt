-- The cases of a rule in their order, and the first that refutes. Assumes nothing.
use Rattle.std.specs.Prelude.{◌≡◌, ℕ, zero, suc, ◌+◌, ◌*◌, ◌/◌, ◌%◌, ◌^◌, ◌<◌, Bool, true, false, cond, ◌⊎◌, ◌↔◌, List, [], ◌∷◌, ◌++◌, map, length, take, drop, replicate, Some, None, Option, slice_index, slice_index_or, Ok}
use Rattle.domain.specs.Model.{Model, Outcome, trap}
use Rattle.semantics.specs.Programs.{Refines, Inputs, Choices, outcome, freezes}
use Rattle.semantics.specs.Rules.{Rule, numbered, source_of, target_of, Refutes}
use Rattle.semantics.specs.declared.Instruction.{Instruction}

-- n numbers from k on
abbrev pub from : ℕ → ℕ → List ℕ
from k zero = []
from k (suc n) = k ∷ from (suc k) n

abbrev pub codes : Model → List ℕ
codes m = from 0 m.size

abbrev pub keep : (ℕ → Bool) → List ℕ → List ℕ
keep t [] = []
keep t (x ∷ xs) = cond (t x) (x ∷ keep t xs) (keep t xs)

abbrev pub settled_codes : Model → List ℕ
settled_codes m = keep m.settled (codes m)

abbrev pub each_of : {A B : Type 0} → (A → List B) → List A → List B
each_of f [] = []
each_of f (x ∷ xs) = f x ++ each_of f xs

-- all lists with one entry from each set, the first entry slowest
abbrev pub tuples : List (List ℕ) → List (List ℕ)
tuples [] = [] ∷ []
tuples (d ∷ ds) = each_of (λ c. map (λ cs. c ∷ cs) (tuples ds)) d

-- the k-th of them: k written with the sizes of the sets for digits
abbrev pub tuple_at : List (List ℕ) → ℕ → List ℕ
tuple_at [] k = []
tuple_at (d ∷ ds) k = slice_index d (k / length (tuples ds)) ∷ tuple_at ds (k % length (tuples ds))

abbrev pub freezes_in : List Instruction → ℕ
freezes_in is = freezes (numbered 1 is)

-- a case gives each variable a code and each freeze of the target a settled code
pub record Case : Type 0 where
  pub vars : List ℕ
  pub choices : List ℕ

-- a list of entries as a case: the variables come first
abbrev pub as_case : Rule → List ℕ → Case
as_case r c = record { vars = take r.variables c; choices = drop r.variables c }

-- the sets from which the entries of a case are
abbrev pub entries : Model → Rule → List (List ℕ)
entries m r = replicate r.variables (codes m) ++ replicate (freezes_in r.target) (settled_codes m)

-- all cases in their order
abbrev pub cases : Model → Rule → List Case
cases m r = map (as_case r) (tuples (entries m r))

abbrev pub source_choices : Model → Rule → List (List ℕ)
source_choices m r = tuples (replicate (freezes_in r.source) (settled_codes m))

abbrev pub outcome_refining : Model → Outcome → Outcome → Bool
outcome_refining m (Ok a) (Ok b) = m.refines a b
outcome_refining m (Ok a) trap = true
outcome_refining m trap (Ok b) = false
outcome_refining m trap trap = true

abbrev pub none : {A : Type 0} → (A → Bool) → List A → Bool
none t [] = true
none t (x ∷ xs) = cond (t x) false (none t xs)

-- a case refutes: no source choices let the target's outcome refine the source's
abbrev pub refutes : Model → Rule → Case → Bool
refutes m r c = none (λ ds. outcome_refining m (outcome m (target_of r) c.vars c.choices) (outcome m (source_of r) c.vars ds)) (source_choices m r)

abbrev pub first : {A : Type 0} → (A → Bool) → List A → Option A
first t [] = None
first t (x ∷ xs) = cond (t x) (Some x) (first t xs)

abbrev pub first_refuting : Model → Rule → Option Case
first_refuting m r = first (refutes m r) (cases m r)

-- the product of size for each variable and the count of settled codes for each freeze on either side
abbrev pub case_number : Model → Rule → ℕ
case_number m r = m.size ^ r.variables * length (settled_codes m) ^ (freezes_in r.source + freezes_in r.target)

-- What `first_refuting` answers.

-- an element of a list
abbrev pub Listed : {A : Type 0} → A → List A → Type 0
Listed a [] = ⊥
Listed a (x ∷ xs) = (a ≡ x) ⊎ Listed a xs

-- each element is in the relation with all that follow
abbrev pub Rising : {A : Type 0} → (A → A → Type 0) → List A → Type 0
Rising R [] = Unit {0}
Rising R (x ∷ xs) = ((y : _) → Listed y xs → R x y) × Rising R xs

-- the order of lists
abbrev pub Before : List ℕ → List ℕ → Type 0
Before [] ys = ⊥
Before (x ∷ xs) [] = ⊥
Before (x ∷ xs) (y ∷ ys) = (x < y) ⊎ ((x ≡ y) × Before xs ys)

-- one case comes before another
abbrev pub ComesBefore : Case → Case → Type 0
ComesBefore c d = Before (c.vars ++ c.choices) (d.vars ++ d.choices)

-- a case refutes, and none before it does
pub record FirstRefutes (m : Model) (r : Rule) (c : Case) : Type 0 where
  pub refutes : Refutes m r c.vars c.choices
  pub none_before : (d : Case) → Refutes m r d.vars d.choices → ComesBefore d c → ⊥

pub record SearchExact (m : Model) (r : Rule) : Type 0 where
  pub none : (first_refuting m r ≡ None) ↔ Refines m (target_of r) (source_of r)
  pub some : (c : Case) → (first_refuting m r ≡ Some c) ↔ FirstRefutes m r c
  -- the cases are those lists of codes and choices, each once, in their order
  pub has : (c : Case) → Listed c (cases m r) ↔ (Inputs m (target_of r) c.vars × Choices m (target_of r) c.choices)
  pub rising : Rising ComesBefore (cases m r)
  pub numbered : (k : ℕ) → k < length (cases m r) → slice_index_or (cases m r) k (as_case r []) ≡ as_case r (tuple_at (entries m r) k)
  -- there are as many as the target's part of the case number says
  pub count : length (cases m r) ≡ m.size ^ r.variables * length (settled_codes m) ^ freezes_in r.target

-- so it is of any rule
abbrev pub CheckingExact : Model → Type 0
CheckingExact m = (r : Rule) → SearchExact m r
