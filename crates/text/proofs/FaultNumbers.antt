-- The numbers that the faults of a line have, and those of a whole rule. Assumes nothing.
use Rattle.std.proofs.Common.{◌≡◌, ℕ, ◌<◌, ◌≤◌, Bool, true, false, cond, ltb, List, [], ◌∷◌, length, Some, None, Option, refl, subst, arith}
use Rattle.domain.specs.Model.{Model}
use Rattle.scan.specs.declared.Separators.TheVariants.{SpacesAndCommas}
use Rattle.scan.specs.Pieces.{Bytes, words}
use Rattle.text.specs.Forms.{Form, Written, form, rule_line, arrow_line, end_line, in_line, ret_line, instruction_line}
use Rattle.text.specs.Faults.{Step, next, wrong, first_of, unless, skipped, formed_line, line_step}
use Rattle.text.specs.Instructions.{Named, Names, names_of, place, number_outside, name_wrong, bad_marks, code_missing, instruction_fault}
use Rattle.text.specs.RuleTexts as R
use Rattle.text.specs.ProgramTexts as P

-- a fault of a line
abbrev pub InLine : ℕ → Type 0
InLine n = (2 ≤ n) × (n ≤ 7)

none_wrong : {S : Type 0} {s : S} {n : ℕ} {A : Type 0} → ◌≡◌ {A = Step S} (next s) (wrong n) → A
none_wrong e = let z : ◌≡◌ {A = ℕ} 0 1 = cc in absurd (omega arith)

first_in : (P : ℕ → Type 0) (b : Bool) (n : ℕ) (later : Option ℕ) → P n → ((k : ℕ) → later ≡ Some k → P k) → (k : ℕ) → first_of b n later ≡ Some k → P k
first_in P true n later p rest k e = let same : n ≡ k = cc in subst P same p
first_in P false n later p rest k e = rest k e

nothing_in : (P : ℕ → Type 0) (k : ℕ) → ◌≡◌ {A = Option ℕ} None (Some k) → P k
nothing_in P k e = let z : ◌≡◌ {A = ℕ} 0 1 = cc in absurd (omega arith)

unless_in : {S : Type 0} (o : Option ℕ) (s : S) → ((k : ℕ) → o ≡ Some k → InLine k) → (n : ℕ) → unless o s ≡ wrong n → InLine n
unless_in (Some k) s h n e = let same : k ≡ n = cc in subst InLine same (h k refl)
unless_in None s h n e = none_wrong e

two : {S : Type 0} (n : ℕ) → ◌≡◌ {A = Step S} (wrong 2) (wrong n) → InLine n
two n e = let same : 2 ≡ n = cc in subst InLine same (omega arith, omega arith)

instruction_in : (m : Model) (b : Bool) (ns : Names) (w : Written) (k : ℕ) → instruction_fault m b ns w ≡ Some k → InLine k
instruction_in m b ns w =
    first_in InLine (number_outside w) 3 _ (omega arith, omega arith)
    (first_in InLine b 4 _ (omega arith, omega arith)
    (first_in InLine (name_wrong ns w) 5 _ (omega arith, omega arith)
    (first_in InLine (bad_marks w.operation w.marks) 6 _ (omega arith, omega arith)
    (first_in InLine (code_missing m w) 7 None (omega arith, omega arith) (nothing_in InLine)))))

module _ {S : Type 0} (step : S → Form → Step S) (inside : (s : S) (f : Form) (n : ℕ) → step s f ≡ wrong n → InLine n) where
  formed_in : (s : S) (o : Option Form) (n : ℕ) → formed_line step s o ≡ wrong n → InLine n
  formed_in s (Some f) n e = inside s f n e
  formed_in s None n e = two n e

  pub line_in : (s : S) (l : Bytes) (n : ℕ) → line_step step s l ≡ wrong n → InLine n
  line_in s l n e = go (skipped l) e
    where
      go : (b : Bool) → cond b (next s) (formed_line step s (form (words SpacesAndCommas l))) ≡ wrong n → InLine n
      go true e = none_wrong e
      go false e = formed_in s (form (words SpacesAndCommas l)) n e

closing_in : {S : Type 0} (xs : List Named) (s : S) (n : ℕ) → R.closing xs s ≡ wrong n → InLine n
closing_in [] s n e = two n e
closing_in (x ∷ xs) s n e = none_wrong e

rule_form_in : (m : Model) (x : R.Section) (s : R.Reading) (f : Form) (n : ℕ) → R.in_order m x s f ≡ wrong n → InLine n
rule_form_in m R.at_start s rule_line n e = none_wrong e
rule_form_in m R.at_start s arrow_line n e = two n e
rule_form_in m R.at_start s end_line n e = two n e
rule_form_in m R.at_start s (in_line ns) n e = two n e
rule_form_in m R.at_start s (ret_line x) n e = two n e
rule_form_in m R.at_start s (instruction_line w) n e = two n e
rule_form_in m R.in_source s rule_line n e = two n e
rule_form_in m R.in_source s arrow_line n e = closing_in s.source (R.in_section R.in_target s) n e
rule_form_in m R.in_source s end_line n e = two n e
rule_form_in m R.in_source s (in_line ns) n e = two n e
rule_form_in m R.in_source s (ret_line x) n e = two n e
rule_form_in m R.in_source s (instruction_line w) n e = unless_in _ _ (instruction_in m (R.source_too_many s w) (R.source_names s w) w) n e
rule_form_in m R.in_target s rule_line n e = two n e
rule_form_in m R.in_target s arrow_line n e = two n e
rule_form_in m R.in_target s end_line n e = closing_in s.target (R.in_section R.at_end s) n e
rule_form_in m R.in_target s (in_line ns) n e = two n e
rule_form_in m R.in_target s (ret_line x) n e = two n e
rule_form_in m R.in_target s (instruction_line w) n e = unless_in _ _ (instruction_in m (R.target_too_many s) (R.target_names s) w) n e
rule_form_in m R.at_end s rule_line n e = two n e
rule_form_in m R.at_end s arrow_line n e = two n e
rule_form_in m R.at_end s end_line n e = two n e
rule_form_in m R.at_end s (in_line ns) n e = two n e
rule_form_in m R.at_end s (ret_line x) n e = two n e
rule_form_in m R.at_end s (instruction_line w) n e = two n e

pub rule_in : (m : Model) (s : R.Reading) (l : Bytes) (n : ℕ) → line_step (R.rule_step m) s l ≡ wrong n → InLine n
rule_in m = line_in (R.rule_step m) (λ s f n e. rule_form_in m s.section s f n e)

-- 8 or 9 after the lines of a rule
abbrev Behind : ℕ → Type 0
Behind k = (7 < k) × (k ≤ 9)

pub rule_behind : (m : Model) (s : R.Reading) (k : ℕ) → R.rule_fault m s ≡ Some k → (7 < k) × (k ≤ 9)
rule_behind m s = first_in Behind (R.ends_wrong s) 8 _ (omega arith, omega arith) (first_in Behind (R.too_many_cases m (R.rule_of s)) 9 None (omega arith, omega arith) (nothing_in Behind))

result_in : (s : P.Reading) (o : Option ℕ) (n : ℕ) → P.result_at o s ≡ wrong n → InLine n
result_in s (Some k) n e = none_wrong e
result_in s None n e = let same : 5 ≡ n = cc in subst InLine same (omega arith, omega arith)

ret_in : (s : P.Reading) (xs : List Named) (x : Bytes) (n : ℕ) → P.result_line xs s x ≡ wrong n → InLine n
ret_in s [] x n e = two n e
ret_in s (y ∷ xs) x n e = result_in s (place x (names_of (y ∷ xs))) n e

program_form_in : (m : Model) (x : P.Section) (s : P.Reading) (f : Form) (n : ℕ) → P.in_order m x s f ≡ wrong n → InLine n
program_form_in m P.at_start s rule_line n e = two n e
program_form_in m P.at_start s arrow_line n e = two n e
program_form_in m P.at_start s end_line n e = two n e
program_form_in m P.at_start s (in_line ns) n e = unless_in _ _ (first_in InLine (ltb 8 (length ns)) 4 _ (omega arith, omega arith) (first_in InLine (P.twice ns) 5 None (omega arith, omega arith) (nothing_in InLine))) n e
program_form_in m P.at_start s (ret_line x) n e = two n e
program_form_in m P.at_start s (instruction_line w) n e = two n e
program_form_in m P.in_body s rule_line n e = two n e
program_form_in m P.in_body s arrow_line n e = two n e
program_form_in m P.in_body s end_line n e = two n e
program_form_in m P.in_body s (in_line ns) n e = two n e
program_form_in m P.in_body s (ret_line x) n e = ret_in s s.body x n e
program_form_in m P.in_body s (instruction_line w) n e = unless_in _ _ (instruction_in m (P.body_too_many s) (P.body_names s) w) n e
program_form_in m P.at_end s rule_line n e = two n e
program_form_in m P.at_end s arrow_line n e = two n e
program_form_in m P.at_end s end_line n e = two n e
program_form_in m P.at_end s (in_line ns) n e = two n e
program_form_in m P.at_end s (ret_line x) n e = two n e
program_form_in m P.at_end s (instruction_line w) n e = two n e

pub program_in : (m : Model) (s : P.Reading) (l : Bytes) (n : ℕ) → line_step (P.program_step m) s l ≡ wrong n → InLine n
program_in m = line_in (P.program_step m) (λ s f n e. program_form_in m s.section s f n e)
