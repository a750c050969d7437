-- A program with its free records: rewriting by one rule at one record, and passing over the whole. Assumes nothing.
use Rattle.std.specs.Prelude.{◌≡◌, ℕ, suc, ◌-◌, ◌≤◌, cond, not, T, ◌↔◌, List, [], ◌∷◌, ◌++◌, length, take, drop, nat_le}
use Rattle.domain.specs.Model.{Model}
use Rattle.semantics.specs.Programs.{Placed, Program, Formed, Refines, All, has, records}
use Rattle.semantics.specs.Rules.{Rule, WellMade, source_of, target_of, Match, Distinct, Fits, removed, rewritten}
use Rattle.semantics.specs.Fitting.{Fitted, matched, unfit, fit}
use Rattle.semantics.specs.Cases.{from}

-- a program with its free records, the first to be taken first
pub record Loaded : Type 0 where
  pub program : Program
  pub free : List ℕ

-- instructions that stand in records from 1 on, the rest free and rising
abbrev pub as_loaded : Program → Loaded
as_loaded p = record { program = p; free = from (suc (length p.body)) (64 - length p.body) }

-- a program changed, or the number of the refusal
pub data Changed : Type 0 where
  changed : Loaded → Changed
  unchanged : ℕ → Changed

-- records are freed one after the other, and one freed last is taken first
abbrev pub freed : List ℕ → List ℕ → List ℕ
freed [] free = free
freed (x ∷ xs) free = freed xs (x ∷ free)

-- the records that can be taken once the matches but the last are freed, and how many the target takes
abbrev pub available : Loaded → Rule → Match → List ℕ
available l r w = freed (removed w r) l.free

abbrev pub wanted : Rule → ℕ
wanted r = length r.target - 1

abbrev pub rewrite : Loaded → Rule → ℕ → Match → Loaded
rewrite l r at w = record { program = rewritten l.program r at w (take (wanted r) (available l r w)); free = drop (wanted r) (available l r w) }

abbrev pub rewrite_few : Loaded → Changed
rewrite_few l = cond (nat_le (length l.program.body) 64) (changed l) (unchanged 19)

abbrev pub rewrite_fitted : Loaded → Rule → ℕ → Fitted → Changed
rewrite_fitted l r at (matched w) = rewrite_few (rewrite l r at w)
rewrite_fitted l r at (unfit k) = unchanged k

-- one rule at one record
abbrev pub rewrite_at : Loaded → Rule → ℕ → Changed
rewrite_at l r at = cond (has at (records l.program.body)) (rewrite_fitted l r at (fit l.program r at)) (unchanged 15)

-- how often a pass has applied a rule so far, and the program then
pub record Passing : Type 0 where
  pub count : ℕ
  pub now : Loaded

-- the earliest rule that can be applied at a record
abbrev pub or_next : Passing → Changed → Passing → Passing
or_next x (changed l) y = record { count = suc x.count; now = l }
or_next x (unchanged k) y = y

abbrev pub visit : List Rule → Passing → ℕ → Passing
visit [] x at = x
visit (r ∷ rs) x at = or_next x (rewrite_at x.now r at) (visit rs x at)

abbrev pub visits : List Rule → Passing → List ℕ → Passing
visits rs x [] = x
visits rs x (at ∷ ats) = visits rs (visit rs x at) ats

-- the records that are visited are those of the start
abbrev pub whole_pass : List Rule → Loaded → Passing
whole_pass rs l = visits rs (record { count = 0; now = l }) (records l.program.body)

-- a program and its free records: a record is free exactly when no instruction stands in it
pub record ProperProgram (m : Model) (l : Loaded) : Type 0 where
  pub formed : Formed m l.program
  pub distinct : Distinct l.free
  pub free : (k : ℕ) → T (has k l.free) ↔ ((1 ≤ k) × (k ≤ 64) × T (not (has k (records l.program.body))))

-- a rule that may be applied
pub record Checked (m : Model) (r : Rule) : Type 0 where
  pub made : WellMade m r
  pub refines : Refines m (target_of r) (source_of r)

-- a pass meets each instruction as it stood at the start: when its record is visited, it and all behind it are unchanged
abbrev pub PassMeets : Model → Type 0
PassMeets m =
    (rs : List Rule) → All (Checked m) rs → (l : Loaded) → ProperProgram m l →
    (before : List Placed) (here : Placed) (behind : List Placed) → l.program.body ≡ before ++ (here ∷ behind) →
    (now : List Placed) × ((visits rs (record { count = 0; now = l }) (records before)).now.program.body ≡ now ++ (here ∷ behind))

-- 64 instructions suffice exactly when there are records for the target
abbrev pub RoomExact : Model → Type 0
RoomExact m =
    (l : Loaded) → ProperProgram m l → (r : Rule) → WellMade m r → (at : ℕ) (w : Match) → Fits l.program r at w → T (has at (records l.program.body)) →
    (length (rewrite l r at w).program.body ≤ 64) ↔ (wanted r ≤ length (available l r w))
