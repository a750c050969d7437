-- The form of an instruction line that was written. Assumes nothing.
use Rattle.std.proofs.Common.{◌≡◌, ℕ, suc, ◌<◌, ◌≤◌, Bool, true, false, cond, eqb, ltb, List, [], ◌∷◌, ◌++◌, map, length, pos, Some, None, decimal, refl, ap, ◌∙◌, arith, length-append}
use lib.ListN.{length-map}
use Rattle.std.proofs.lemmas.Bool.{and_right, eq-eqb}
use Rattle.semantics.specs.declared.Operand.{Operand}
use Rattle.semantics.specs.declared.Operand.TheVariants.{Input, Record, Constant}
use Rattle.vocabulary.specs.declared.operation.Operation.{Operation}
use Rattle.semantics.specs.declared.Instruction.{Instruction}
use Rattle.semantics.specs.Programs.{All, reads}
use Rattle.semantics.specs.Cases.{keep}
use Rattle.semantics.proofs.Counts.{reads_count, reads_few}
use Rattle.scan.specs.Pieces.{Bytes}
use Rattle.std.specs.List.{list_all}
use Rattle.scan.specs.Numbers.{digit, digits, worth}
use Rattle.text.specs.Words.{Argument, a_name, a_number, a_code, only_if, and_then, or_else, each, constant_argument, argument}
use Rattle.vocabulary.specs.Names.{operation_named, operand_count, name_of}
use Rattle.semantics.specs.Operations.{facts}
use Rattle.text.specs.Forms.{Written, instruction_line, mark_before, leading_marks, not_a_mark, behind_marks, arguments, written, form, mark}
use Rattle.text.specs.Neat.{in_set, written_marks}
use Rattle.text.specs.Writing.{input_name, operand_word, mark_word, instruction_words}
use Rattle.text.proofs.Spaced.{Good}
use Rattle.text.proofs.Named.{reads_decimal, name_word, good_word, good_code, Naming}
use Rattle.text.proofs.Spelled.{MarkFine, op_fine}

-- the operand as a word says it
abbrev pub argument_of : (ℕ → Bytes) → Operand → Argument
argument_of f (Input k) = a_name (input_name k)
argument_of f (Record r) = a_name (f r)
argument_of f (Constant c) = a_code c

-- the line as it is read
abbrev pub line_of : (ℕ → Bytes) → ℕ → Instruction → Written
line_of f r i = record {
  name = f r;
  operation = i.operation;
  marks = written_marks i.operation i.marks.bits;
  arguments = map (argument_of f) (reads i);
}

-- numbers that are not too long to be written
abbrev pub Small : ℕ → Operand → Type 0
Small total (Input k) = k < 8
Small total (Record r) = r ≤ total
Small total (Constant c) = c ≤ 65535

all_keep : (P : ℕ → Type 0) (t : ℕ → Bool) (xs : List ℕ) → All P xs → All P (keep t xs)
all_keep P t [] a = tt
all_keep P t (x ∷ xs) a = elim (t x) as (λ b. All P (cond b (x ∷ keep t xs) (keep t xs))) [ true ↦ (a.0, all_keep P t xs a.1) | false ↦ all_keep P t xs a.1 ]

length_keep : (t : ℕ → Bool) (xs : List ℕ) → length (keep t xs) ≤ length xs
length_keep t [] = omega arith
length_keep t (x ∷ xs) = let h = length_keep t xs in elim (t x) as (λ b. length (cond b (x ∷ keep t xs) (keep t xs)) ≤ suc (length xs)) [ true ↦ omega arith | false ↦ omega arith ]

-- f names the instructions
module _ (f : ℕ → Bytes) (total : ℕ) (naming : Naming f total) where
  reads_argument : (o : Operand) → Small total o → argument (operand_word f o) ≡ Some (argument_of f o)
  reads_argument (Input k) s = ap (λ x. or_else (and_then x (λ n. Some (a_name n))) (constant_argument (operand_word f (Input k)))) (name_word (suc k) (omega arith) 105 refl)
  reads_argument (Record r) s = ap (λ x. or_else (and_then x (λ n. Some (a_name n))) (constant_argument (operand_word f (Record r)))) (naming.reads r s)
  reads_argument (Constant c) s =
      ap (λ b. or_else (and_then (cond b (Some (worth (35 ∷ decimal c))) None) (λ v. Some (a_number (pos v)))) (and_then (digits (decimal c)) (λ v. Some (a_code v)))) (and_right (ltb 0 (suc (length (decimal c)))) (list_all digit (35 ∷ decimal c)) refl)
      ∙ ap (λ x. and_then x (λ v. Some (a_code v))) (reads_decimal c (omega arith))

  reads_arguments : (os : List Operand) → All (Small total) os → each argument (map (operand_word f) os) ≡ Some (map (argument_of f) os)
  reads_arguments [] s = refl
  reads_arguments (o ∷ os) s =
      ap (λ x. and_then x (λ x. and_then (each argument (map (operand_word f) os)) (λ xs. Some (x ∷ xs)))) (reads_argument o s.0)
      ∙ ap (λ x. and_then x (λ xs. Some (argument_of f o ∷ xs))) (reads_arguments os s.1)

  no_mark : (o : Operand) → mark (operand_word f o) ≡ None
  no_mark (Input k) = refl
  no_mark (Record r) = refl
  no_mark (Constant c) = refl

  reads_marks : (ms : List ℕ) (os : List Operand) → All MarkFine ms → leading_marks (map mark_word ms ++ map (operand_word f) os) ≡ ms
  reads_marks [] [] a = refl
  reads_marks [] (o ∷ os) a = ap (λ x. mark_before x (leading_marks (map (operand_word f) os))) (no_mark o)
  reads_marks (x ∷ ms) os a =
      ap (λ y. mark_before y (leading_marks (map mark_word ms ++ map (operand_word f) os))) a.0.1 ∙ ap (λ l. x ∷ l) (reads_marks ms os a.1)

  passes_marks : (ms : List ℕ) (os : List Operand) → All MarkFine ms → behind_marks (map mark_word ms ++ map (operand_word f) os) ≡ map (operand_word f) os
  passes_marks [] [] a = refl
  passes_marks [] (o ∷ os) a = ap (λ x. not_a_mark x (map (operand_word f) (o ∷ os)) (behind_marks (map (operand_word f) os))) (no_mark o)
  passes_marks (x ∷ ms) os a =
      let ws = map mark_word ms ++ map (operand_word f) os in
      ap (λ y. not_a_mark y (mark_word x ∷ ws) (behind_marks ws)) a.0.1 ∙ passes_marks ms os a.1

  module _ (r : ℕ) (i : Instruction) (low : r ≤ total) (small : All (Small total) (reads i)) where
    abbrev op : Operation
    op = i.operation

    abbrev ms : List ℕ
    ms = written_marks op i.marks.bits

    marks_fine : All MarkFine ms
    marks_fine = all_keep MarkFine (in_set i.marks.bits) (facts op).permitted (op_fine op).marks

    reads_operands : arguments op (map (operand_word f) (reads i)) ≡ Some (map (argument_of f) (reads i))
    reads_operands =
        ap (λ x. and_then x (λ args. only_if (eqb (length args) (operand_count op)) args)) (reads_arguments (reads i) small)
        ∙ ap (λ b. only_if b (map (argument_of f) (reads i))) (eq-eqb (length (map (argument_of f) (reads i))) (operand_count op) (length-map (reads i) (argument_of f) ∙ reads_count i))

    reads_written : written (f r) op (map mark_word ms ++ map (operand_word f) (reads i)) ≡ Some (instruction_line (line_of f r i))
    reads_written =
        let ws = map mark_word ms ++ map (operand_word f) (reads i) in
        ap (λ l. and_then (arguments op l) (λ args. Some (instruction_line (record { name = f r; operation = op; marks = leading_marks ws; arguments = args })))) (passes_marks ms (reads i) marks_fine)
        ∙ ap (λ x. and_then x (λ args. Some (instruction_line (record { name = f r; operation = op; marks = leading_marks ws; arguments = args })))) reads_operands
        ∙ ap (λ l. Some (instruction_line (record { name = f r; operation = op; marks = l; arguments = map (argument_of f) (reads i) }))) (reads_marks ms (reads i) marks_fine)

    pub reads_form : form (instruction_words f (record { at = r; what = i })) ≡ Some (instruction_line (line_of f r i))
    reads_form =
        let ws = map mark_word ms ++ map (operand_word f) (reads i) in
        ap (λ x. and_then x (λ n. and_then (operation_named (name_of op)) (λ op. written n op ws))) (naming.reads r low)
        ∙ ap (λ x. and_then x (λ op. written (f r) op ws)) (op_fine op).known
        ∙ reads_written

    good_operand : (o : Operand) → Small total o → Good (operand_word f o)
    good_operand (Input k) s = good_word 37 105 (suc k) (omega arith) refl refl
    good_operand (Record j) s = naming.good j s
    good_operand (Constant c) s = good_code c (omega arith)

    good_operands : (os : List Operand) → All (Small total) os → All Good (map (operand_word f) os)
    good_operands [] s = tt
    good_operands (o ∷ os) s = (good_operand o s.0, good_operands os s.1)

    good_rest : (xs : List ℕ) → All MarkFine xs → All Good (map mark_word xs ++ map (operand_word f) (reads i))
    good_rest [] a = good_operands (reads i) small
    good_rest (x ∷ xs) a = (a.0.0, good_rest xs a.1)

    pub good_line : All Good (instruction_words f (record { at = r; what = i }))
    good_line = (naming.good r low, (record { some = omega arith; short = omega arith; solid_bytes = refl }, ((op_fine op).word, good_rest ms marks_fine)))

    pub few_words : length (instruction_words f (record { at = r; what = i })) ≤ 8
    few_words =
        let a = length-append (map mark_word ms) (map (operand_word f) (reads i)) in
        let b = length-map ms mark_word in
        let c = length-map (reads i) (operand_word f) in
        let d = reads_few i in
        let h = length_keep (in_set i.marks.bits) (facts op).permitted in
        let g = (op_fine op).few in
        omega arith
