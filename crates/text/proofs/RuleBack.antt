-- Reading a rule that was written gives the rule again. Assumes nothing.
use Rattle.std.proofs.Common.{◌≡◌, ℕ, suc, ◌+◌, ◌-◌, ◌<◌, ◌≤◌, Bool, true, false, not, ◌||◌, T, ltb, leb, List, [], ◌∷◌, ◌++◌, map, length, None, codes, sym, refl, ap, ◌∙◌, subst, append_assoc, append-nil, arith, length-append}
use mathlib.Core.Path.{subst⁻¹}
use mathlib.Core.List.{map-append}
use lib.ListN.{length-map}
use Rattle.std.proofs.lemmas.Bool.{or_from, le-leb, lt-leb, le-ltb, not_from_true}
use Rattle.semantics.specs.declared.Instruction.{Instruction}
use Rattle.domain.specs.Model.{Model, Lawful}
use Rattle.semantics.specs.Programs.{Placed, All, reads}
use Rattle.semantics.specs.Rules.{Rule, numbered, source_of, read_in, AllRead, front}
use Rattle.semantics.proofs.Members.{all_weaker, holds}
use Rattle.semantics.specs.Cases.{from, case_number}
use Rattle.semantics.proofs.Listed.{length_from}
use Rattle.scan.specs.Pieces.{Bytes}
use Rattle.vocabulary.specs.Names.{same_word}
use Rattle.text.specs.Words.{any}
use Rattle.text.specs.Faults.{Read, accepted, Step, next, first_of, unless, formed_line, line_step, walk, sized}
use Rattle.text.specs.Instructions.{Named, Names, names_of, learnt, instruction, instruction_fault}
use Rattle.text.specs.RuleTexts.{Reading, closing, in_source, in_target, at_end, rule_step, rule_of, some_unread, last_name, whole, rule_end, nothing_read, read_rule}
use Rattle.text.specs.Neat.{Neat}
use Rattle.text.specs.Accepted.{operands, InTurn}
use Rattle.text.specs.Writing.{spaced, text_of, input_name, record_name, side_name, behind_name, instruction_words, lines_of, side_lines, RulesReadBack}
use Rattle.text.proofs.Found.{same_itself}
use Rattle.text.proofs.Fine.{Okay, Fine, length_numbered}
use Rattle.text.proofs.Spaced.{Good, Filled, length_text, lines_text, step_spaced, walk_on}
use Rattle.text.proofs.Named.{side_naming}
use Rattle.text.proofs.WrittenForm.{line_of, reads_form, good_line}
use Rattle.text.proofs.WrittenLine.{names_at, small_operands, no_fault, instruction_back}
use Rattle.text.proofs.Labels.{label, label_push, names_label, bodies_label, length_label, fine_back, good_lines, count_lines}
use Rattle.text.proofs.Turns.{seen_after}
use Rattle.text.proofs.Seen.{seen_longer, okay_seen, seen_append, turn_split, seen_whole, learnt_back}

abbrev ins : ℕ → List Bytes
ins n = map input_name (from 0 n)

length_ins : (n : ℕ) → length (ins n) ≡ n
length_ins n = length-map (from 0 n) input_name ∙ length_from 0 n

-- no instruction is unread, where every one but the last is read by a later one
none_unread : (all : List Placed) (xs : List Placed) → ((k : ℕ) → T (read_in k xs) → T (read_in k all)) → AllRead xs → any (λ x. not (read_in x.at all)) (front xs) ≡ false
none_unread all [] h r = refl
none_unread all (x ∷ []) h r = refl
none_unread all (x ∷ y ∷ xs) h r =
    or_from (not (read_in x.at all)) _ (not_from_true (read_in x.at all) (holds (read_in x.at all) (h x.at (later x.at r.0)))) (none_unread all (y ∷ xs) (λ k t. h k (later k t)) r.1)
  where
    later : (k : ℕ) → T (read_in k (y ∷ xs)) → T (read_in k (x ∷ y ∷ xs))
    later k t = elim (Rattle.semantics.specs.Rules.any_reads (k ∷ []) (reads x.what)) as (λ b. T (b || read_in k (y ∷ xs))) [ true ↦ tt | false ↦ t ]

last_label : (f : ℕ → Bytes) (k : ℕ) (i : Instruction) (is : List Instruction) → last_name (label f k (i ∷ is)) ≡ f (k + length is)
last_label f k i [] = ap f (let e : k ≡ k + 0 = omega arith in e)
last_label f k i (j ∷ is) = last_label f (suc k) j is ∙ ap f (let e : suc k + length is ≡ k + suc (length is) = omega arith in e)

-- the last instruction of a written side is r0
last_side : (is : List Instruction) → 1 ≤ length is → last_name (label (side_name (length is)) 1 is) ≡ record_name 0
last_side [] h = absurd (omega arith)
last_side (i ∷ is) h = last_label (side_name (suc (length is))) 1 i is ∙ ap record_name (let e : suc (length is) - (1 + length is) ≡ 0 = omega arith in e)

module _ (m : Model) (law : Lawful m) (source : List Instruction) (short : length source ≤ 8) where
  abbrev f : ℕ → Bytes
  f = side_name (length source)

  -- after `rule`, some source lines and n variables
  abbrev in_lines : ℕ → List Instruction → Reading
  in_lines n is = record { section = in_source; variables = ins n; source = label f 1 is; target = [] }

  reads_source : (done : List Instruction) (i : Instruction) (n : ℕ) → length done < length source → seen_after n (reads i) ≤ 4 → InTurn n (reads i) → All (Okay m (seen_after n (reads i)) (suc (length done))) (reads i) → Neat i →
      line_step (rule_step m) (in_lines n done) (spaced (instruction_words f (record { at = suc (length done); what = i }))) ≡ next (in_lines (seen_after n (reads i)) (done ++ i ∷ []))
  reads_source done i n room few turn okay neat =
      let k = length done in
      let p = seen_after n (reads i) in
      let w = line_of f (suc k) i in
      let naming = side_naming (length source) short in
      let small = small_operands f (length source) naming m law p k (omega arith) room (reads i) okay in
      let names : List Bytes → List Bytes → Names = λ rs vs. record { variables = vs; instructions = rs } in
      let body : Instruction → List Named = λ x. label f 1 done ++ record { name = f (suc k); what = x } ∷ [] in
      let state : List Bytes → List Named → Reading = λ vs xs. record { section = in_source; variables = vs; source = xs; target = [] } in
      let step : List Bytes → List Bytes → Bool → Step Reading = λ rs vs b. unless (instruction_fault m b (names rs vs) w) (state vs (body (instruction m (names rs vs) w))) in
      let many : List Bytes → Bool = λ vs. leb 8 (length (label f 1 done)) || ltb 4 (length vs) in
      let full : many (ins p) ≡ false = or_from (leb 8 (length (label f 1 done))) (ltb 4 (length (ins p))) (ap (leb 8) (length_label f 1 done) ∙ lt-leb 8 k (omega arith)) (le-ltb 4 (length (ins p)) (let l = length_ins p in omega arith)) in
      let pushed : body i ≡ label f 1 (done ++ i ∷ []) = ap (λ j. label f 1 done ++ record { name = f j; what = i } ∷ []) (let e : suc k ≡ 1 + k = omega arith in e) ∙ sym (label_push f 1 done i) in
      step_spaced (rule_step m) (in_lines n done) 37 (f (suc k)) (behind_name f i) (good_line f (length source) naming (suc k) i room small) refl
      ∙ ap (formed_line (rule_step m) (in_lines n done)) (reads_form f (length source) naming (suc k) i room small)
      ∙ ap (λ rs. step rs (learnt rs (ins n) w.arguments) (many (learnt rs (ins n) w.arguments))) (names_label f 1 done)
      ∙ ap (λ vs. step (map f (from 1 k)) vs (many vs)) (learnt_back f (length source) naming m p k room n (reads i) turn okay (omega arith))
      ∙ ap (step (map f (from 1 k)) (ins p)) full
      ∙ ap (λ o. unless o (state (ins p) (body (instruction m (names_at f p k) w)))) (no_fault f (length source) naming m law p k (omega arith) room i okay)
      ∙ ap (λ x. next (state (ins p) (body x))) (instruction_back f (length source) naming m law p k (omega arith) room i okay neat)
      ∙ ap (λ xs. next (state (ins p) xs)) pushed

  walk_source : (all k n : ℕ) (done rest : List Instruction) (more : List Bytes) (R : Read Rule) → k ≡ suc (length done) → length done + length rest ≡ length source → seen_after n (operands rest) ≡ all → all ≤ 4 →
      ((j : ℕ) → walk (rule_step m) (rule_end m) (in_lines all (done ++ rest)) j more ≡ R) →
      Fine m all k rest → InTurn n (operands rest) → All Neat rest → (j : ℕ) → walk (rule_step m) (rule_end m) (in_lines n done) j (map spaced (lines_of f (numbered k rest)) ++ more) ≡ R
  walk_source all k n done [] more R at size seen few end fine turn neat j =
      subst (λ xs. walk (rule_step m) (rule_end m) (in_lines n xs) j more ≡ R) (append-nil done) (subst⁻¹ (λ n. walk (rule_step m) (rule_end m) (in_lines n (done ++ [])) j more ≡ R) seen (end j))
  walk_source all k n done (i ∷ rest) more R at size seen few end fine turn neat j =
      let p = seen_after n (reads i) in
      let (here, later) = turn_split n (reads i) (operands rest) turn in
      let all_seen : seen_after p (operands rest) ≡ all = sym (seen_append n (reads i) (operands rest)) ∙ seen in
      let longer = seen_longer p (operands rest) in
      let okay : All (Okay m p (suc (length done))) (reads i) = okay_seen m all (suc (length done)) n (reads i) (subst (λ k. All (Okay m all k) (reads i)) at fine.0) in
      let line : line_step (rule_step m) (in_lines n done) (spaced (instruction_words f (record { at = k; what = i }))) ≡ next (in_lines p (done ++ i ∷ [])) =
      subst⁻¹ (λ k. line_step (rule_step m) (in_lines n done) (spaced (instruction_words f (record { at = k; what = i }))) ≡ next (in_lines p (done ++ i ∷ []))) at (reads_source done i n (omega arith) (omega arith) here okay neat.0) in
      let l = length-append done (i ∷ []) in
      walk_on (rule_step m) (rule_end m) (in_lines n done) (in_lines p (done ++ i ∷ [])) j (spaced (instruction_words f (record { at = k; what = i }))) (map spaced (lines_of f (numbered (suc k) rest)) ++ more) line
      ∙ walk_source all (suc k) p (done ++ i ∷ []) rest more R (omega arith) (omega arith) all_seen few (λ j. subst⁻¹ (λ xs. walk (rule_step m) (rule_end m) (in_lines all xs) j more ≡ R) (append_assoc done (i ∷ []) rest) (end j)) fine.1 later neat.1 (suc j)

  module _ (n : ℕ) (few : n ≤ 4) (target : List Instruction) (brief : length target ≤ 8) where
    abbrev g : ℕ → Bytes
    g = side_name (length target)

    -- after `=>` and some target lines
    abbrev out_lines : List Instruction → Reading
    out_lines is = record { section = in_target; variables = ins n; source = label f 1 source; target = label g 1 is }

    reads_target : (done : List Instruction) (i : Instruction) → length done < length target → All (Okay m n (suc (length done))) (reads i) → Neat i →
        line_step (rule_step m) (out_lines done) (spaced (instruction_words g (record { at = suc (length done); what = i }))) ≡ next (out_lines (done ++ i ∷ []))
    reads_target done i room okay neat =
        let k = length done in
        let w = line_of g (suc k) i in
        let naming = side_naming (length target) brief in
        let small = small_operands g (length target) naming m law n k (omega arith) room (reads i) okay in
        let names : List Bytes → Names = λ rs. record { variables = ins n; instructions = rs } in
        let body : Instruction → List Named = λ x. label g 1 done ++ record { name = g (suc k); what = x } ∷ [] in
        let state : List Named → Reading = λ xs. record { section = in_target; variables = ins n; source = label f 1 source; target = xs } in
        let step : List Bytes → Bool → Step Reading = λ rs b. unless (instruction_fault m b (names rs) w) (state (body (instruction m (names rs) w))) in
        let full : leb 8 (length (label g 1 done)) ≡ false = ap (leb 8) (length_label g 1 done) ∙ lt-leb 8 k (omega arith) in
        let pushed : body i ≡ label g 1 (done ++ i ∷ []) = ap (λ j. label g 1 done ++ record { name = g j; what = i } ∷ []) (let e : suc k ≡ 1 + k = omega arith in e) ∙ sym (label_push g 1 done i) in
        step_spaced (rule_step m) (out_lines done) 37 (g (suc k)) (behind_name g i) (good_line g (length target) naming (suc k) i room small) refl
        ∙ ap (formed_line (rule_step m) (out_lines done)) (reads_form g (length target) naming (suc k) i room small)
        ∙ ap (step (names_of (label g 1 done))) full
        ∙ ap (λ rs. step rs false) (names_label g 1 done)
        ∙ ap (λ o. unless o (state (body (instruction m (names_at g n k) w)))) (no_fault g (length target) naming m law n k (omega arith) room i okay)
        ∙ ap (λ x. next (state (body x))) (instruction_back g (length target) naming m law n k (omega arith) room i okay neat)
        ∙ ap (λ xs. next (state xs)) pushed

    walk_target : (k : ℕ) (done rest : List Instruction) (more : List Bytes) (R : Read Rule) → k ≡ suc (length done) → length done + length rest ≡ length target → ((j : ℕ) → walk (rule_step m) (rule_end m) (out_lines (done ++ rest)) j more ≡ R) →
        Fine m n k rest → All Neat rest → (j : ℕ) → walk (rule_step m) (rule_end m) (out_lines done) j (map spaced (lines_of g (numbered k rest)) ++ more) ≡ R
    walk_target k done [] more R at size end fine neat j = subst (λ xs. walk (rule_step m) (rule_end m) (out_lines xs) j more ≡ R) (append-nil done) (end j)
    walk_target k done (i ∷ rest) more R at size end fine neat j =
        let okay : All (Okay m n (suc (length done))) (reads i) = subst (λ k. All (Okay m n k) (reads i)) at fine.0 in
        let line : line_step (rule_step m) (out_lines done) (spaced (instruction_words g (record { at = k; what = i }))) ≡ next (out_lines (done ++ i ∷ [])) =
        subst⁻¹ (λ k. line_step (rule_step m) (out_lines done) (spaced (instruction_words g (record { at = k; what = i }))) ≡ next (out_lines (done ++ i ∷ []))) at (reads_target done i (omega arith) okay neat.0) in
        let l = length-append done (i ∷ []) in
        walk_on (rule_step m) (rule_end m) (out_lines done) (out_lines (done ++ i ∷ [])) j (spaced (instruction_words g (record { at = k; what = i }))) (map spaced (lines_of g (numbered (suc k) rest)) ++ more) line
        ∙ walk_target (suc k) (done ++ i ∷ []) rest more R (omega arith) (omega arith) (λ j. subst⁻¹ (λ xs. walk (rule_step m) (rule_end m) (out_lines xs) j more ≡ R) (append_assoc done (i ∷ []) rest) (end j)) fine.1 neat.1 (suc j)

    abbrev done : Reading
    done = record { section = at_end; variables = ins n; source = label f 1 source; target = label g 1 target }

    reads_arrow : 1 ≤ length source → line_step (rule_step m) (in_lines n source) (spaced (codes "=>" ∷ [])) ≡ next (out_lines [])
    reads_arrow some = step_spaced (rule_step m) (in_lines n source) 61 (62 ∷ []) [] (record { some = omega arith; short = omega arith; solid_bytes = refl }, tt) refl ∙ go source some
      where
        go : (is : List Instruction) → 1 ≤ length is → closing (label f 1 is) (out_lines []) ≡ next (out_lines [])
        go [] h = absurd (omega arith)
        go (i ∷ is) h = refl

    reads_end : 1 ≤ length target → line_step (rule_step m) (out_lines target) (spaced (codes "end" ∷ [])) ≡ next done
    reads_end some = step_spaced (rule_step m) (out_lines target) 101 (110 ∷ 100 ∷ []) [] (record { some = omega arith; short = omega arith; solid_bytes = refl }, tt) refl ∙ go target some
      where
        go : (is : List Instruction) → 1 ≤ length is → closing (label g 1 is) done ≡ next done
        go [] h = absurd (omega arith)
        go (i ∷ is) h = refl

    ends : (r : Rule) → r ≡ record { variables = n; source = source; target = target } → 1 ≤ length source → 1 ≤ length target → AllRead (numbered 1 source) → case_number m r ≤ 100000000 → (j : ℕ) → rule_end m done j ≡ accepted r
    ends r e some more read cases j =
        let same-rule : rule_of done ≡ r = (λ i. record { variables = length_ins n i; source = bodies_label f 1 source i; target = bodies_label g 1 target i }) ∙ sym e in
        let last : same_word (last_name (label f 1 source)) (last_name (label g 1 target)) ≡ true = ap (λ x. same_word x (last_name (label g 1 target))) (last_side source some) ∙ ap (same_word (record_name 0)) (last_side target more) ∙ same_itself (record_name 0) in
        let read_all : some_unread (numbered 1 r.source) ≡ false = ap (λ r. some_unread (numbered 1 r.source)) e ∙ none_unread (numbered 1 source) (numbered 1 source) (λ k t. t) read in
        let eight : (some_unread (numbered 1 r.source) || not (same_word (last_name (label f 1 source)) (last_name (label g 1 target)))) ≡ false = or_from _ _ read_all (not_from_true _ last) in
        ap (λ q. whole (first_of (some_unread (source_of q).body || not (same_word (last_name (label f 1 source)) (last_name (label g 1 target)))) 8 (first_of (ltb 100000000 (case_number m q)) 9 None)) q) same-rule
        ∙ ap (λ b. whole (first_of b 8 (first_of (ltb 100000000 (case_number m r)) 9 None)) r) eight
        ∙ ap (λ b. whole (first_of b 9 None) r) (le-ltb 100000000 (case_number m r) cases)

    good_words : All Good (codes "rule" ∷ codes "t" ∷ [])
    good_words = (record { some = omega arith; short = omega arith; solid_bytes = refl }, (record { some = omega arith; short = omega arith; solid_bytes = refl }, tt))

    reads_start : line_step (rule_step m) nothing_read (spaced (codes "rule" ∷ codes "t" ∷ [])) ≡ next (in_lines 0 [])
    reads_start = step_spaced (rule_step m) nothing_read 114 (117 ∷ 108 ∷ 101 ∷ []) (codes "t" ∷ []) good_words refl

    reads_all : (r : Rule) → r ≡ record { variables = n; source = source; target = target } → 1 ≤ length source → 1 ≤ length target → AllRead (numbered 1 source) → case_number m r ≤ 100000000 →
        Fine m n 1 source → Fine m n 1 target → InTurn 0 (operands source) → seen_after 0 (operands source) ≡ n → All Neat source → All Neat target →
        read_rule m (text_of ((codes "rule" ∷ codes "t" ∷ []) ∷ (side_lines source ++ (codes "=>" ∷ []) ∷ (side_lines target ++ (codes "end" ∷ []) ∷ [])))) ≡ accepted r
    reads_all r e some more read cases fine good turn seen neat tidy =
        let tail = side_lines target ++ (codes "end" ∷ []) ∷ [] in
        let rest = side_lines source ++ (codes "=>" ∷ []) ∷ tail in
        let ls = (codes "rule" ∷ codes "t" ∷ []) ∷ rest in
        let full-tail : All Filled tail = good_lines g (length target) (side_naming (length target) brief) m law n (omega arith) 0 target ((codes "end" ∷ []) ∷ []) good (omega arith) ((omega arith, (record { some = omega arith; short = omega arith; solid_bytes = refl }, tt)), tt) in
        let full-rest : All Filled rest = good_lines f (length source) (side_naming (length source) short) m law n (omega arith) 0 source ((codes "=>" ∷ []) ∷ tail) fine (omega arith) ((omega arith, (record { some = omega arith; short = omega arith; solid_bytes = refl }, tt)), full-tail) in
        let filled : All Filled ls = ((omega arith, good_words), full-rest) in
        let size = length_text ls filled in
        let count = count_lines f (length source) (side_naming (length source) short) m law n (omega arith) 0 source ((codes "=>" ∷ []) ∷ tail) fine (omega arith) in
        let number = count_lines g (length target) (side_naming (length target) brief) m law n (omega arith) 0 target ((codes "end" ∷ []) ∷ []) good (omega arith) in
        let after : (j : ℕ) → walk (rule_step m) (rule_end m) (out_lines target) j (spaced (codes "end" ∷ []) ∷ []) ≡ accepted r =
        λ j. walk_on (rule_step m) (rule_end m) (out_lines target) done j (spaced (codes "end" ∷ [])) [] (reads_end more) ∙ ends r e some more read cases (suc j) in
        let second : (j : ℕ) → walk (rule_step m) (rule_end m) (in_lines n source) j (spaced (codes "=>" ∷ []) ∷ map spaced tail) ≡ accepted r =
        λ j.
        walk_on (rule_step m) (rule_end m) (in_lines n source) (out_lines []) j (spaced (codes "=>" ∷ [])) (map spaced tail) (reads_arrow some)
        ∙ ap (walk (rule_step m) (rule_end m) (out_lines []) (suc j)) (map-append spaced (side_lines target) ((codes "end" ∷ []) ∷ []))
        ∙ walk_target 1 [] target (spaced (codes "end" ∷ []) ∷ []) (accepted r) (omega arith) (omega arith) after good tidy (suc j) in
        ap (λ b. sized b (rule_step m) (rule_end m) nothing_read (text_of ls)) (le-leb (length (text_of ls)) 4096 (omega arith))
        ∙ ap (walk (rule_step m) (rule_end m) nothing_read 1) (lines_text ls (all_weaker Filled (All Good) (λ ws h. h.1) ls filled))
        ∙ walk_on (rule_step m) (rule_end m) nothing_read (in_lines 0 []) 1 (spaced (codes "rule" ∷ codes "t" ∷ [])) (map spaced rest) reads_start
        ∙ ap (walk (rule_step m) (rule_end m) (in_lines 0 []) 2) (map-append spaced (side_lines source) ((codes "=>" ∷ []) ∷ tail))
        ∙ walk_source n 1 0 [] source (spaced (codes "=>" ∷ []) ∷ map spaced tail) (accepted r) (omega arith) (omega arith) seen few second fine turn neat 2

pub reads_rule_back : (m : Model) → Lawful m → RulesReadBack m
reads_rule_back m law r said =
    let w = said.made in
    let sf = w.source_formed in
    let tf = w.target_formed in
    let fine : Fine m r.variables 1 r.source = fine_back m r.variables 1 [] r.source (λ j h. absurd h) (omega arith) sf.ordered in
    let good : Fine m r.variables 1 r.target = fine_back m r.variables 1 [] r.target (λ j h. absurd h) (omega arith) tf.ordered in
    let some : 1 ≤ length r.source = let h = sf.some in let l = length_numbered 1 r.source in omega arith in
    let more : 1 ≤ length r.target = let h = tf.some in let l = length_numbered 1 r.target in omega arith in
    reads_all m law r.source w.source_few r.variables w.few_variables r.target w.target_few r refl some more w.all_read said.cases fine good said.in_turn (seen_whole m r.variables r.source fine w.all_used) said.source_neat said.target_neat
