-- An instruction line that was written is read back where it stands. Assumes nothing.
use Rattle.std.proofs.Common.{◌≡◌, ℕ, suc, ◌+◌, ◌-◌, ◌<◌, ◌≤◌, Bool, false, cond, ◌||◌, List, [], ◌∷◌, map, Some, None, Ok, Err, Option, sym, refl, ap, ◌∙◌, arith}
use Rattle.std.proofs.lemmas.Bool.{or_from, or_left, or_right, le-ltb, not_from_true}
use Rattle.semantics.specs.declared.Operand.{Operand}
use Rattle.semantics.specs.declared.Operand.TheVariants.{Input, Record, Constant}
use Rattle.semantics.specs.declared.Instruction.{Instruction}
use Rattle.domain.specs.declared.fault.DomainFault.TheVariants.{NoSettledCode}
use Rattle.domain.specs.Model.{Model, Lawful}
use Rattle.semantics.specs.Programs.{All, reads}
use Rattle.semantics.proofs.Members.{holds}
use Rattle.semantics.specs.Cases.{from}
use Rattle.scan.specs.Pieces.{Bytes}
use Rattle.text.specs.Words.{Argument, any}
use Rattle.semantics.specs.Operations.{facts}
use Rattle.text.specs.Faults.{first_of}
use Rattle.text.specs.Instructions.{Names, place, among, known, named, operand, sum, made, instruction, outside, unreadable, bad_marks, refuses, unsettled, instruction_fault}
use Rattle.text.specs.Neat.{in_set, written_marks, Neat}
use Rattle.text.specs.Writing.{input_name}
use Rattle.text.proofs.Found.{absent_placed, among_placed}
use Rattle.text.proofs.Fine.{Okay}
use Rattle.text.proofs.WrittenForm.{argument_of, line_of, Small}
use Rattle.text.proofs.Named.{name_apart, absent, placed, Naming}
use Rattle.text.proofs.Spelled.{op_fine}

first_none : (b : Bool) (j : ℕ) (later : Option ℕ) → b ≡ false → later ≡ None → first_of b j later ≡ None
first_none b j later e g = ap (λ b. first_of b j later) e ∙ g

-- the line stands after k instructions in a program of n inputs
abbrev pub names_at : (ℕ → Bytes) → ℕ → ℕ → Names
names_at f n k = record { variables = map input_name (from 0 n); instructions = map f (from 1 k) }

module _ (f : ℕ → Bytes) (total : ℕ) (naming : Naming f total) (m : Model) (law : Lawful m) (n k : ℕ) (few : n ≤ 8) (room : k < total) where
  pub small_operand : (o : Operand) → Okay m n (suc k) o → Small total o
  small_operand (Input v) h = omega arith
  small_operand (Record r) h = let (a, b) = h in omega arith
  small_operand (Constant c) h = let a = law.settled_code c h in let b = law.most_size in omega arith

  pub small_operands : (os : List Operand) → All (Okay m n (suc k)) os → All (Small total) os
  small_operands [] h = tt
  small_operands (o ∷ os) h = (small_operand o h.0, small_operands os h.1)

  abbrev ns : Names
  ns = names_at f n k

  input_absent : (v : ℕ) → among (input_name v) ns.instructions ≡ false
  input_absent v = absent f (input_name v) 1 k (λ j low high e. naming.other v j e)

  input_placed : (v : ℕ) → v < n → place (input_name v) ns.variables ≡ Some v
  input_placed v h = placed input_name 0 n v (λ j low high e. let z = name_apart 105 (suc v) (suc j) (omega arith) (omega arith) e in omega arith) (omega arith) (omega arith) ∙ ap Some (let e : v - 0 ≡ v = omega arith in e)

  record_placed : (j : ℕ) → 1 ≤ j → j ≤ k → place (f j) ns.instructions ≡ Some (j - 1)
  record_placed j low high = placed f 1 k j (λ q a b e. naming.apart j q (omega arith) (omega arith) e) low (omega arith)

  operand_back : (o : Operand) → Okay m n (suc k) o → operand m ns (argument_of f o) ≡ o
  operand_back (Input v) h = ap (λ x. named x (place (input_name v) ns.variables)) (absent_placed (input_name v) ns.instructions (input_absent v)) ∙ ap (named None) (input_placed v h)
  operand_back (Record j) h =
      let (a, b) = h in
      ap (λ x. named x (place (f j) ns.variables)) (record_placed j a (omega arith)) ∙ ap Record (let e : suc (j - 1) ≡ j = omega arith in e)
  operand_back (Constant c) h = refl

  operands_back : (os : List Operand) → All (Okay m n (suc k)) os → map (operand m ns) (map (argument_of f) os) ≡ os
  operands_back [] h = refl
  operands_back (o ∷ os) h = λ j. operand_back o h.0 j ∷ operands_back os h.1 j

  operand_known : (o : Operand) → Okay m n (suc k) o → unreadable ns (argument_of f o) ≡ false
  operand_known (Input v) h = not_from_true _ (or_right (among (input_name v) ns.instructions) (among (input_name v) ns.variables) (among_placed (input_name v) ns.variables v (input_placed v h)))
  operand_known (Record j) h =
      let (a, b) = h in
      not_from_true _ (or_left (among (f j) ns.instructions) (among (f j) ns.variables) (among_placed (f j) ns.instructions (j - 1) (record_placed j a (omega arith))))
  operand_known (Constant c) h = refl

  operand_inside : (o : Operand) → Okay m n (suc k) o → outside (argument_of f o) ≡ false
  operand_inside (Input v) h = refl
  operand_inside (Record j) h = refl
  operand_inside (Constant c) h = le-ltb 65535 c (small_operand (Constant c) h)

  operand_settled : (o : Operand) → Okay m n (suc k) o → unsettled m (argument_of f o) ≡ false
  operand_settled (Input v) h = refl
  operand_settled (Record j) h = refl
  operand_settled (Constant c) h = ap (λ b. refuses (cond b (Ok c) (Err NoSettledCode))) (holds (m.settled c) h)

  none_fails : (test : Argument → Bool) → ((o : Operand) → Okay m n (suc k) o → test (argument_of f o) ≡ false) → (os : List Operand) → All (Okay m n (suc k)) os → any test (map (argument_of f) os) ≡ false
  none_fails test g [] h = refl
  none_fails test g (o ∷ os) h = or_from (test (argument_of f o)) _ (g o h.0) (none_fails test g os h.1)

  name_free : known ns (f (suc k)) ≡ false
  name_free =
      or_from _ _
      (absent f (f (suc k)) 1 k (λ j low high e. let z = naming.apart (suc k) j (omega arith) (omega arith) e in omega arith))
      (absent input_name (f (suc k)) 0 n (λ j low high e. naming.other j (suc k) (sym e)))

  pub no_fault : (i : Instruction) → All (Okay m n (suc k)) (reads i) → instruction_fault m false ns (line_of f (suc k) i) ≡ None
  no_fault i h =
      let w = line_of f (suc k) i in
      first_none (any outside w.arguments) 3 _ (none_fails outside operand_inside (reads i) h)
      (first_none (any (unreadable ns) w.arguments || known ns w.name) 5 _ (or_from _ _ (none_fails (unreadable ns) operand_known (reads i) h) name_free)
      (first_none (bad_marks w.operation w.marks) 6 _ ((op_fine i.operation).apart (in_set i.marks.bits))
      (first_none (any (unsettled m) w.arguments) 7 _ (none_fails (unsettled m) operand_settled (reads i) h) refl)))

  pub instruction_back : (i : Instruction) → All (Okay m n (suc k)) (reads i) → Neat i → instruction m ns (line_of f (suc k) i) ≡ i
  instruction_back i h neat =
      ap (made i.operation ((facts i.operation).unwritten + sum (written_marks i.operation i.marks.bits))) (operands_back (reads i) h) ∙ neat
