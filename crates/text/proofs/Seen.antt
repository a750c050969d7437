-- How many variables have appeared, in a rule that numbers them by first appearance. Assumes nothing.
use Rattle.std.proofs.Common.{◌≡◌, ℕ, zero, suc, ◌+◌, ◌-◌, ◌<◌, ◌≤◌, max, Bool, true, false, cond, ◌||◌, T, eqb, List, [], ◌∷◌, ◌++◌, map, refl, ap, ◌∙◌, ⊎_elim, arith, eqb→eq}
use mathlib.Core.Path.{subst⁻¹}
use Rattle.std.proofs.lemmas.Bool.{or_left, or_right, or_from, cases_lt}
use Rattle.semantics.specs.declared.Operand.{Operand}
use Rattle.semantics.specs.declared.Operand.TheVariants.{Input, Record, Constant}
use Rattle.semantics.specs.declared.Instruction.{Instruction}
use Rattle.domain.specs.Model.{Model}
use Rattle.semantics.specs.Programs.{All, reads}
use Rattle.semantics.specs.Rules.{reads_variable, variable_in}
use Rattle.semantics.specs.Cases.{from}
use Rattle.scan.specs.Pieces.{Bytes}
use Rattle.text.specs.Instructions.{among, learnt}
use Rattle.text.specs.Accepted.{operands, InTurn}
use Rattle.text.specs.Writing.{input_name}
use Rattle.text.proofs.Found.{among_placed}
use Rattle.text.proofs.Fine.{Okay, Fine}
use Rattle.text.proofs.Turns.{seen_after}
use Rattle.text.proofs.Named.{Naming, name_apart, absent, placed}
use Rattle.text.proofs.WrittenForm.{argument_of}

pub seen_longer : (n : ℕ) (os : List Operand) → n ≤ seen_after n os
seen_longer n [] = omega arith
seen_longer n (Input v ∷ os) = let h = seen_longer (max n (suc v)) os in omega arith
seen_longer n (Record r ∷ os) = seen_longer n os
seen_longer n (Constant c ∷ os) = seen_longer n os

-- the variables of a line are among those seen after it
pub okay_seen : (m : Model) (p k n : ℕ) (os : List Operand) → All (Okay m p k) os → All (Okay m (seen_after n os) k) os
okay_seen m p k n [] a = tt
okay_seen m p k n (Input v ∷ os) a = (let h = seen_longer (max n (suc v)) os in omega arith, okay_seen m p k (max n (suc v)) os a.1)
okay_seen m p k n (Record r ∷ os) a = (a.0, okay_seen m p k n os a.1)
okay_seen m p k n (Constant c ∷ os) a = (a.0, okay_seen m p k n os a.1)

pub seen_append : (n : ℕ) (os ps : List Operand) → seen_after n (os ++ ps) ≡ seen_after (seen_after n os) ps
seen_append n [] ps = refl
seen_append n (Input v ∷ os) ps = seen_append (max n (suc v)) os ps
seen_append n (Record r ∷ os) ps = seen_append n os ps
seen_append n (Constant c ∷ os) ps = seen_append n os ps

pub turn_split : (n : ℕ) (os ps : List Operand) → InTurn n (os ++ ps) → InTurn n os × InTurn (seen_after n os) ps
turn_split n [] ps t = (tt, t)
turn_split n (Input v ∷ os) ps t = let (a, b) = turn_split (max n (suc v)) os ps t.1 in ((t.0, a), b)
turn_split n (Record r ∷ os) ps t = turn_split n os ps t
turn_split n (Constant c ∷ os) ps t = turn_split n os ps t

seen_most : (m : Model) (p k n : ℕ) (os : List Operand) → All (Okay m p k) os → n ≤ p → seen_after n os ≤ p
seen_most m p k n [] a h = h
seen_most m p k n (Input v ∷ os) a h = let l = a.0 in seen_most m p k (max n (suc v)) os a.1 (omega arith)
seen_most m p k n (Record r ∷ os) a h = seen_most m p k n os a.1 h
seen_most m p k n (Constant c ∷ os) a h = seen_most m p k n os a.1 h

seen_all : (m : Model) (p k n : ℕ) (is : List Instruction) → Fine m p k is → n ≤ p → seen_after n (operands is) ≤ p
seen_all m p k n [] f h = h
seen_all m p k n (i ∷ is) f h = subst⁻¹ (λ s. s ≤ p) (seen_append n (reads i) (operands is)) (seen_all m p (suc k) (seen_after n (reads i)) is f.1 (seen_most m p k n (reads i) f.0 h))

seen_read : (v n : ℕ) (os : List Operand) → T (reads_variable v os) → v < seen_after n os
seen_read v n [] t = absurd t
seen_read v n (Input k ∷ os) t = go (eqb k v) (eqb→eq k v) (seen_read v (max n (suc k)) os) t
  where
    go : (b : Bool) → (T b → k ≡ v) → (T (reads_variable v os) → v < seen_after (max n (suc k)) os) → T (b || reads_variable v os) → v < seen_after (max n (suc k)) os
    go true e rest t = let same = e tt in let h = seen_longer (max n (suc k)) os in omega arith
    go false e rest t = rest t
seen_read v n (Record r ∷ os) t = seen_read v n os t
seen_read v n (Constant c ∷ os) t = seen_read v n os t

seen_used : (v n : ℕ) (is : List Instruction) → T (variable_in v is) → v < seen_after n (operands is)
seen_used v n [] t = absurd t
seen_used v n (i ∷ is) t = subst⁻¹ (λ s. v < s) (seen_append n (reads i) (operands is)) (go (reads_variable v (reads i)) (seen_read v n (reads i)) (seen_used v (seen_after n (reads i)) is) t)
  where
    go : (b : Bool) → (T b → v < seen_after n (reads i)) → (T (variable_in v is) → v < seen_after (seen_after n (reads i)) (operands is)) → T (b || variable_in v is) → v < seen_after (seen_after n (reads i)) (operands is)
    go true here rest t = let a = here tt in let b = seen_longer (seen_after n (reads i)) (operands is) in omega arith
    go false here rest t = rest t

-- all variables have appeared after the source
pub seen_whole : (m : Model) (n : ℕ) (is : List Instruction) → Fine m n 1 is → ((v : ℕ) → v < n → T (variable_in v is)) → seen_after 0 (operands is) ≡ n
seen_whole m zero is f used = let h = seen_all m 0 1 0 is f (omega arith) in omega arith
seen_whole m (suc n) is f used =
    let h = seen_all m (suc n) 1 0 is f (omega arith) in
    let l = seen_used n 0 is (used n (omega arith)) in
    omega arith

from_push : (a n : ℕ) → from a n ++ (a + n) ∷ [] ≡ from a (suc n)
from_push a zero = ap (λ k. k ∷ []) (let e : a + 0 ≡ a = omega arith in e)
from_push a (suc n) = ap (λ l. a ∷ l) (ap (λ k. from (suc a) n ++ k ∷ []) (let e : a + suc n ≡ suc a + n = omega arith in e) ∙ from_push (suc a) n)

map_push : (f : ℕ → Bytes) (xs : List ℕ) (x : ℕ) → map f xs ++ f x ∷ [] ≡ map f (xs ++ x ∷ [])
map_push f [] x = refl
map_push f (y ∷ xs) x = ap (λ l. f y ∷ l) (map_push f xs x)

abbrev ins : ℕ → List Bytes
ins n = map input_name (from 0 n)

ins_more : (n : ℕ) → ins n ++ input_name n ∷ [] ≡ ins (suc n)
ins_more n = map_push input_name (from 0 n) n ∙ ap (map input_name) (ap (λ k. from 0 n ++ k ∷ []) (let e : n ≡ 0 + n = omega arith in e) ∙ from_push 0 n)

-- a written source line makes its new variables known
module _ (f : ℕ → Bytes) (total : ℕ) (naming : Naming f total) (m : Model) (p k : ℕ) (room : k < total) where
  abbrev rs : List Bytes
  rs = map f (from 1 k)

  learn_input : (n v : ℕ) → n ≤ 8 → v ≤ n → v < 8 → cond (among (input_name v) rs || among (input_name v) (ins n)) (ins n) (ins n ++ input_name v ∷ []) ≡ ins (max n (suc v))
  learn_input n v few low high = ⊎_elim old new (cases_lt v n)
    where
      apart : (j : ℕ) → j < 9 → input_name v ≡ input_name j → v ≡ j
      apart j h e = let z = name_apart 105 (suc v) (suc j) (omega arith) (omega arith) e in omega arith

      old : v < n → cond (among (input_name v) rs || among (input_name v) (ins n)) (ins n) (ins n ++ input_name v ∷ []) ≡ ins (max n (suc v))
      old l =
          let known = among_placed (input_name v) (ins n) (v - 0) (placed input_name 0 n v (λ j a b e. apart j (omega arith) e) (omega arith) (omega arith)) in
          ap (λ b. cond b (ins n) (ins n ++ input_name v ∷ [])) (or_right (among (input_name v) rs) (among (input_name v) (ins n)) known) ∙ ap ins (let e : n ≡ max n (suc v) = omega arith in e)

      new : n ≤ v → cond (among (input_name v) rs || among (input_name v) (ins n)) (ins n) (ins n ++ input_name v ∷ []) ≡ ins (max n (suc v))
      new l =
          let same : v ≡ n = omega arith in
          let unknown = or_from (among (input_name v) rs) (among (input_name v) (ins n)) (absent f (input_name v) 1 k (λ j a b e. naming.other v j e)) (absent input_name (input_name v) 0 n (λ j a b e. let z = apart j (omega arith) e in omega arith)) in
          ap (λ b. cond b (ins n) (ins n ++ input_name v ∷ [])) unknown ∙ ap (λ x. ins n ++ input_name x ∷ []) same ∙ ins_more n ∙ ap ins (let e : suc n ≡ max n (suc v) = omega arith in e)

  learn_record : (vs : List Bytes) (j : ℕ) (x : Bytes) → 1 ≤ j → j ≤ k → cond (among (f j) rs || among (f j) vs) vs (vs ++ x ∷ []) ≡ vs
  learn_record vs j x low high =
      ap (λ b. cond b vs (vs ++ x ∷ [])) (or_left (among (f j) rs) (among (f j) vs) (among_placed (f j) rs (j - 1) (placed f 1 k j (λ q a b e. naming.apart j q (omega arith) (omega arith) e) low (omega arith))))

  pub learnt_back : (n : ℕ) (os : List Operand) → InTurn n os → All (Okay m p (suc k)) os → seen_after n os ≤ 8 → learnt rs (ins n) (map (argument_of f) os) ≡ ins (seen_after n os)
  learnt_back n [] t a h = refl
  learnt_back n (Input v ∷ os) t a h =
      let l = seen_longer (max n (suc v)) os in
      ap (λ vs. learnt rs vs (map (argument_of f) os)) (learn_input n v (omega arith) t.0 (omega arith)) ∙ learnt_back (max n (suc v)) os t.1 a.1 h
  learnt_back n (Record j ∷ os) t a h =
      let (low, high) = a.0 in
      ap (λ vs. learnt rs vs (map (argument_of f) os)) (learn_record (ins n) j (f j) low (omega arith)) ∙ learnt_back n os t a.1 h
  learnt_back n (Constant c ∷ os) t a h = learnt_back n os t a.1 h
