-- Instructions under their names, and what the lines of a program do to them. Assumes nothing.
use Rattle.std.proofs.Common.{◌≡◌, ℕ, suc, ◌≤◌, Bool, false, eqb, leb, List, [], ◌∷◌, ◌++◌, length, Some, None, Option, Result, sym, refl, ap, ◌∙◌, arith}
use Rattle.std.proofs.lemmas.Bool.{true≢false}
use Rattle.std.proofs.lemmas.Bool.Decides.{nat_tests}
use Rattle.domain.specs.Model.{Model}
use Rattle.scan.specs.Pieces.{Bytes}
use Rattle.semantics.specs.declared.Instruction.{Instruction}
use Rattle.text.specs.Forms.{Written as Spelt}
use Rattle.text.specs.Faults.{Step, next, wrong, unless}
use Rattle.text.specs.Instructions.{Names, names_of, bodies, place, instruction, instruction_fault}
use Rattle.text.specs.ProgramTexts.{Reading as Said, in_body, body_line, result_at, result_line}
use Rattle.reader.specs.declared.fault.ReadFault.{ReadFault}
use Rattle.reader.specs.ReadFaults.{answered}
use Rattle.reader.specs.Readings.{named_all}

pub names_named : (ns : List Bytes) (is : List Instruction) → length ns ≡ length is → names_of (named_all ns is) ≡ ns
names_named [] is h = refl
names_named (n ∷ ns) [] h = absurd (omega arith)
names_named (n ∷ ns) (i ∷ is) h = ap (λ xs. n ∷ xs) (names_named ns is (omega arith))

pub bodies_named : (ns : List Bytes) (is : List Instruction) → length ns ≡ length is → bodies (named_all ns is) ≡ is
bodies_named [] [] h = refl
bodies_named [] (i ∷ is) h = absurd (omega arith)
bodies_named (n ∷ ns) [] h = absurd (omega arith)
bodies_named (n ∷ ns) (i ∷ is) h = ap (λ xs. i ∷ xs) (bodies_named ns is (omega arith))

pub length_named : (ns : List Bytes) (is : List Instruction) → length ns ≡ length is → length (named_all ns is) ≡ length is
length_named [] [] h = refl
length_named [] (i ∷ is) h = absurd (omega arith)
length_named (n ∷ ns) [] h = refl
length_named (n ∷ ns) (i ∷ is) h = ap suc (length_named ns is (omega arith))

-- one more name, and its instruction behind the others
pub named_push : (ns : List Bytes) (is : List Instruction) (n : Bytes) (i : Instruction) → length ns ≡ length is → named_all (ns ++ n ∷ []) (is ++ i ∷ []) ≡ named_all ns is ++ record { name = n; what = i } ∷ []
named_push [] [] n i h = refl
named_push [] (j ∷ is) n i h = absurd (omega arith)
named_push (m ∷ ns) [] n i h = absurd (omega arith)
named_push (m ∷ ns) (j ∷ is) n i h = ap (λ xs. record { name = m; what = j } ∷ xs) (named_push ns is n i (omega arith))

-- `ret` where there is an instruction
pub result_of_some : (ns : List Bytes) (is : List Instruction) → length ns ≡ length is → (s : Said) (n : Bytes) → eqb (length is) 0 ≡ false → (o : Option ℕ) → o ≡ place n ns → result_at o s ≡ result_line (named_all ns is) s n
result_of_some [] [] h s n e o p = absurd (true≢false e)
result_of_some [] (i ∷ is) h s n e o p = absurd (omega arith)
result_of_some (m ∷ ns) [] h s n e o p = absurd (omega arith)
result_of_some (m ∷ ns) (i ∷ is) h s n e o p = ap (λ k. result_at k s) p ∙ ap (λ xs. result_at (place n (m ∷ xs)) s) (sym (names_named ns is (omega arith)))

-- a step, its state by another
abbrev pub step_map : {S U : Type 0} → (S → U) → Step S → Step U
step_map f (next s) = next (f s)
step_map f (wrong n) = wrong n

unless_map : {S U : Type 0} (f : S → U) (o : Option ℕ) (s : S) → step_map f (unless o s) ≡ unless o (f s)
unless_map f (Some n) s = refl
unless_map f None s = refl

-- an instruction line of the body, which may be full
module _ (m : Model) (vs ns : List Bytes) (is : List Instruction) (all_named : length ns ≡ length is) (too_many : Bool) (full : too_many ≡ leb 64 (length is)) (result : ℕ) (w : Spelt) (n : Bytes) (same : n ≡ w.name) where
  abbrev pub known_here : Names
  known_here = record { variables = vs; instructions = ns }

  abbrev said : Said
  said = record { section = in_body; inputs = vs; body = named_all ns is; result = result }

  -- the body with one more instruction
  abbrev pub with_one : Instruction → Said
  with_one i = record { section = in_body; inputs = vs; body = named_all ns is ++ record { name = n; what = i } ∷ []; result = result }

  body_told : unless (instruction_fault m too_many known_here w) (with_one (instruction m known_here w)) ≡ body_line m said w
  body_told j =
      let names = sym (names_named ns is all_named) in
      let many = full ∙ ap (leb 64) (sym (length_named ns is all_named)) in
      unless (instruction_fault m (many j) (record { variables = vs; instructions = names j }) w)
      (record { section = in_body; inputs = vs; body = named_all ns is ++ record { name = same j; what = instruction m (record { variables = vs; instructions = names j }) w } ∷ []; result = result })

  pub line_entered : (r : Result Instruction ReadFault) → answered r ≡ unless (instruction_fault m too_many known_here w) (instruction m known_here w) → step_map with_one (answered r) ≡ body_line m said w
  line_entered r e = ap (step_map with_one) e ∙ unless_map with_one (instruction_fault m too_many known_here w) (instruction m known_here w) ∙ body_told

-- a body of at most 64 instructions has no room for one more exactly where it has 64
pub full_is : (k : ℕ) → k ≤ 64 → eqb k 64 ≡ leb 64 k
full_is k h = grind (arith, nat_tests)
