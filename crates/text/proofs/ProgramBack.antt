-- Reading what was written gives the program again. Assumes nothing.
use Rattle.std.proofs.Common.{◌≡◌, ℕ, suc, ◌+◌, ◌-◌, ◌<◌, ◌≤◌, Bool, false, leb, List, [], ◌∷◌, ◌++◌, map, length, Some, None, sym, refl, ap, ◌∙◌, subst, append_assoc, append-nil, arith, length-append}
use mathlib.Core.Path.{subst⁻¹}
use mathlib.Core.List.{map-append}
use lib.ListN.{length-map}
use Rattle.std.proofs.lemmas.Bool.{le-leb, lt-leb, le-ltb}
use Rattle.semantics.specs.declared.Instruction.{Instruction}
use Rattle.domain.specs.Model.{Model, Lawful}
use Rattle.semantics.specs.Programs.{Program, All, reads, Ordered}
use Rattle.semantics.specs.Rules.{numbered}
use Rattle.semantics.proofs.Members.{In, all_weaker}
use Rattle.semantics.specs.Cases.{from}
use Rattle.semantics.proofs.Listed.{length_from}
use Rattle.semantics.proofs.Numbers.{from_in}
use Rattle.scan.specs.Pieces.{Bytes}
use Rattle.text.specs.Words.{and_then}
use Rattle.text.specs.Forms.{in_line, ret_line}
use Rattle.text.specs.Faults.{Read, accepted, Step, next, first_of, unless, formed_line, line_step, walk, sized}
use Rattle.text.specs.Instructions.{Named, Names, names_of, place, instruction, instruction_fault}
use Rattle.text.specs.ProgramTexts.{Reading, in_body, at_end, twice, result_at, program_step, program_of, program_end, nothing_read, read_program}
use Rattle.text.specs.Neat.{Neat}
use Rattle.text.specs.Writing.{spaced, text_of, input_name, record_name, behind_name, instruction_words, lines_of, in_words, ret_words, ProgramsReadBack}
use Rattle.text.proofs.Fine.{Okay, Fine}
use Rattle.text.proofs.Spaced.{Good, Filled, length_text, lines_text, step_spaced, walk_on}
use Rattle.text.proofs.Named.{name_word, name_apart, good_word, placed, record_naming}
use Rattle.text.proofs.WrittenForm.{line_of, reads_form, good_line}
use Rattle.text.proofs.WrittenLine.{names_at, small_operands, no_fault, instruction_back}
use Rattle.text.proofs.Labels.{label, label_push, names_label, bodies_label, length_label, numbered_back, fine_back, all_input_names, once, good_inputs, all_mapped, good_lines, count_lines}

module _ (m : Model) (law : Lawful m) (n : ℕ) (few : n ≤ 8) where
  abbrev ins : List Bytes
  ins = map input_name (from 0 n)

  -- after `in` and some instructions
  abbrev after_lines : List Instruction → Reading
  after_lines is = record { section = in_body; inputs = ins; body = label record_name 1 is; result = 0 }

  good_in : All Good (in_words n)
  good_in = (record { some = omega arith; short = omega arith; solid_bytes = refl }, good_inputs 0 n (omega arith))

  reads_in : line_step (program_step m) nothing_read (spaced (in_words n)) ≡ next (after_lines [])
  reads_in =
      let l : length ins ≡ n = length-map (from 0 n) input_name ∙ length_from 0 n in
      step_spaced (program_step m) nothing_read 105 (110 ∷ []) (map (λ k. 37 ∷ input_name k) (from 0 n)) good_in refl
      ∙ ap (λ x. formed_line (program_step m) nothing_read (and_then x (λ ns. Some (in_line ns)))) (all_input_names 0 n (omega arith))
      ∙ ap (λ b. unless (first_of b 4 (first_of (twice ins) 5 None)) (after_lines [])) (le-ltb 8 (length ins) (omega arith))
      ∙ ap (λ b. unless (first_of b 5 None) (after_lines [])) (once 0 n (omega arith))

  reads_instruction : (done : List Instruction) (i : Instruction) → length done < 64 → All (Okay m n (suc (length done))) (reads i) → Neat i →
      line_step (program_step m) (after_lines done) (spaced (instruction_words record_name (record { at = suc (length done); what = i }))) ≡ next (after_lines (done ++ i ∷ []))
  reads_instruction done i room okay neat =
      let k = length done in
      let w = line_of record_name (suc k) i in
      let small = small_operands record_name 64 record_naming m law n k few room (reads i) okay in
      let names : List Bytes → Names = λ rs. record { variables = ins; instructions = rs } in
      let body : Instruction → List Named = λ x. label record_name 1 done ++ record { name = record_name (suc k); what = x } ∷ [] in
      let state : List Named → Reading = λ xs. record { section = in_body; inputs = ins; body = xs; result = 0 } in
      let step : List Bytes → Bool → Step Reading = λ rs b. unless (instruction_fault m b (names rs) w) (state (body (instruction m (names rs) w))) in
      let full : leb 64 (length (label record_name 1 done)) ≡ false = ap (leb 64) (length_label record_name 1 done) ∙ lt-leb 64 k room in
      let pushed : body i ≡ label record_name 1 (done ++ i ∷ []) = ap (λ j. label record_name 1 done ++ record { name = record_name j; what = i } ∷ []) (let e : suc k ≡ 1 + k = omega arith in e) ∙ sym (label_push record_name 1 done i) in
      step_spaced (program_step m) (after_lines done) 37 (record_name (suc k)) (behind_name record_name i) (good_line record_name 64 record_naming (suc k) i room small) refl
      ∙ ap (formed_line (program_step m) (after_lines done)) (reads_form record_name 64 record_naming (suc k) i room small)
      ∙ ap (step (names_of (label record_name 1 done))) full
      ∙ ap (λ rs. step rs false) (names_label record_name 1 done)
      ∙ ap (λ o. unless o (state (body (instruction m (names_at record_name n k) w)))) (no_fault record_name 64 record_naming m law n k few room i okay)
      ∙ ap (λ x. next (state (body x))) (instruction_back record_name 64 record_naming m law n k few room i okay neat)
      ∙ ap (λ xs. next (state xs)) pushed

  -- the lines of instructions, from record k on
  abbrev lines_from : ℕ → List Instruction → List (List Bytes)
  lines_from k is = lines_of record_name (numbered k is)

  walk_body : (k : ℕ) (done rest : List Instruction) (ret : List Bytes) (R : Read Program) → k ≡ suc (length done) → ((j : ℕ) → walk (program_step m) program_end (after_lines (done ++ rest)) j ret ≡ R) →
      Fine m n k rest → k + length rest ≤ 65 → All Neat rest → (j : ℕ) → walk (program_step m) program_end (after_lines done) j (map spaced (lines_from k rest) ++ ret) ≡ R
  walk_body k done [] ret R at end fine room neat j = subst (λ xs. walk (program_step m) program_end (after_lines xs) j ret ≡ R) (append-nil done) (end j)
  walk_body k done (i ∷ rest) ret R at end fine room neat j =
      let okay : All (Okay m n (suc (length done))) (reads i) = subst (λ k. All (Okay m n k) (reads i)) at fine.0 in
      let line : line_step (program_step m) (after_lines done) (spaced (instruction_words record_name (record { at = k; what = i }))) ≡ next (after_lines (done ++ i ∷ [])) =
      subst⁻¹ (λ k. line_step (program_step m) (after_lines done) (spaced (instruction_words record_name (record { at = k; what = i }))) ≡ next (after_lines (done ++ i ∷ []))) at (reads_instruction done i (omega arith) okay neat.0) in
      walk_on (program_step m) program_end (after_lines done) (after_lines (done ++ i ∷ [])) j (spaced (instruction_words record_name (record { at = k; what = i }))) (map spaced (lines_from (suc k) rest) ++ ret) line
      ∙ walk_body (suc k) (done ++ i ∷ []) rest ret R (let l = length-append done (i ∷ []) in omega arith) (λ j. subst⁻¹ (λ xs. walk (program_step m) program_end (after_lines xs) j ret ≡ R) (append_assoc done (i ∷ []) rest) (end j)) fine.1 (omega arith) neat.1 (suc j)

  abbrev finished : List Instruction → ℕ → Reading
  finished is r = record { section = at_end; inputs = ins; body = label record_name 1 is; result = r }

  good_ret : (r : ℕ) → r ≤ 64 → All Good (ret_words r)
  good_ret r h = (record { some = omega arith; short = omega arith; solid_bytes = refl }, (good_word 37 114 r (omega arith) refl refl, tt))

  reads_ret : (i : Instruction) (is : List Instruction) (r : ℕ) → length (i ∷ is) ≤ 64 → 1 ≤ r → r ≤ length (i ∷ is) → line_step (program_step m) (after_lines (i ∷ is)) (spaced (ret_words r)) ≡ next (finished (i ∷ is) r)
  reads_ret i is r room low high =
      let s = after_lines (i ∷ is) in
      step_spaced (program_step m) s 114 (101 ∷ 116 ∷ []) ((37 ∷ record_name r) ∷ []) (good_ret r (omega arith)) refl
      ∙ ap (λ x. formed_line (program_step m) s (and_then x (λ n. Some (ret_line n)))) (name_word r (omega arith) 114 refl)
      ∙ ap (λ xs. result_at (place (record_name r) xs) s) (names_label record_name 1 (i ∷ is))
      ∙ ap (λ o. result_at o s) (placed record_name 1 (length (i ∷ is)) r (λ q a b e. name_apart 114 r q (omega arith) (omega arith) e) low (omega arith))
      ∙ ap (λ q. next (finished (i ∷ is) q)) (let e : suc (r - 1) ≡ r = omega arith in e)

  walk_ret : (is : List Instruction) (r : ℕ) → length is ≤ 64 → 1 ≤ r → r ≤ length is → (j : ℕ) → walk (program_step m) program_end (after_lines is) j (spaced (ret_words r) ∷ []) ≡ accepted (program_of (finished is r))
  walk_ret [] r room low high j = absurd (omega arith)
  walk_ret (i ∷ is) r room low high j = walk_on (program_step m) program_end (after_lines (i ∷ is)) (finished (i ∷ is) r) j (spaced (ret_words r)) [] (reads_ret i is r room low high)

  reads_all : (is : List Instruction) (r : ℕ) → Fine m n 1 is → length is ≤ 64 → All Neat is → 1 ≤ r → r ≤ length is →
      read_program m (text_of (in_words n ∷ (lines_from 1 is ++ ret_words r ∷ []))) ≡ accepted (program_of (finished is r))
  reads_all is r fine room neat low high =
      let ls = in_words n ∷ (lines_from 1 is ++ ret_words r ∷ []) in
      let filled : All Filled ls = ((omega arith, good_in), good_lines record_name 64 record_naming m law n few 0 is (ret_words r ∷ []) fine (omega arith) ((omega arith, good_ret r (omega arith)), tt)) in
      let size = length_text ls filled in
      let count = count_lines record_name 64 record_naming m law n few 0 is (ret_words r ∷ []) fine (omega arith) in
      let names = length-map (from 0 n) (λ k. 37 ∷ input_name k) in
      let total = length_from 0 n in
      ap (λ b. sized b (program_step m) program_end nothing_read (text_of ls)) (le-leb (length (text_of ls)) 4096 (omega arith))
      ∙ ap (walk (program_step m) program_end nothing_read 1) (lines_text ls (all_weaker Filled (All Good) (λ ws f. f.1) ls filled))
      ∙ walk_on (program_step m) program_end nothing_read (after_lines []) 1 (spaced (in_words n)) (map spaced (lines_from 1 is ++ ret_words r ∷ [])) reads_in
      ∙ ap (walk (program_step m) program_end (after_lines []) 2) (map-append spaced (lines_from 1 is) (ret_words r ∷ []))
      ∙ walk_body 1 [] is (spaced (ret_words r) ∷ []) _ (omega arith) (walk_ret is r room low high) fine (omega arith) neat 2

pub reads_back : (m : Model) → Lawful m → ProgramsReadBack m
reads_back m law p say =
    let is = map (λ x. x.what) p.body in
    let f = say.formed in
    let body : numbered 1 is ≡ p.body = numbered_back 1 p.body say.in_order in
    let len : length is ≡ length p.body = length-map p.body (λ x. x.what) in
    let fine : Fine m p.inputs 1 is = fine_back m p.inputs 1 [] is (λ r h. absurd h) (omega arith) (subst⁻¹ (Ordered m p.inputs []) body f.ordered) in
    let (low, high) = from_in 1 (length p.body) p.result (subst (In p.result) say.in_order f.has_result) in
    let few = f.few in
    let ins = map input_name (from 0 p.inputs) in
    let count : length ins ≡ p.inputs = length-map (from 0 p.inputs) input_name ∙ length_from 0 p.inputs in
    ap (λ xs. read_program m (text_of (in_words p.inputs ∷ (lines_of record_name xs ++ ret_words p.result ∷ [])))) (sym body)
    ∙ reads_all m law p.inputs f.few_inputs is p.result fine (omega arith) (all_mapped p.body say.neat) low (omega arith)
    ∙ λ j. accepted (record { inputs = count j; body = (ap (numbered 1) (bodies_label record_name 1 is) ∙ body) j; result = p.result })
