-- What a refusal tells. Assumes nothing.
use Rattle.std.proofs.Common.{◌≡◌, ℕ, suc, ◌+◌, ◌<◌, ◌≤◌, Bool, true, false, cond, leb, List, [], ◌∷◌, length, Some, None, Option, sym, refl, ap, ◌∙◌, subst, arith}
use Rattle.std.proofs.lemmas.Bool.{leb-true, leb-false, le-leb, lt-leb, cond-true, cond-false}
use Rattle.domain.specs.Model.{Model}
use Rattle.scan.specs.Pieces.{Bytes, lines}
use Rattle.text.specs.Forms.{Form}
use Rattle.text.specs.Faults.{Fault, fault, Read, refused, Step, next, wrong, line_step, go_on, walk, sized, read}
use Rattle.text.specs.Refused.{Told, RulesTold, ProgramsTold}
use Rattle.text.specs.RuleTexts as R
use Rattle.text.specs.ProgramTexts as P
use Rattle.text.proofs.FaultNumbers.{InLine, rule_in, rule_behind, program_in}

-- a fault at the end: 2 at the line after the last, or one without a line
abbrev AtEnd : ℕ → ℕ → Fault → Type 0
AtEnd last n f = (g : ℕ) × (2 ≤ g) × (g ≤ last) × (f ≡ fault g (cond (leb g 7) n 0))

module _ {S A : Type 0} (step : S → Form → Step S) (finish : S → ℕ → Read A) (last : ℕ) (high : 7 ≤ last) (inside : (s : S) (l : Bytes) (n : ℕ) → line_step step s l ≡ wrong n → InLine n)
    (after : (s : S) (n : ℕ) (f : Fault) → finish s n ≡ refused f → AtEnd last n f) where
  -- refused in one of the lines from n on, or at the end
  abbrev Place : ℕ → ℕ → Fault → Type 0
  Place n count f = (k : ℕ) × (n ≤ k) × (k ≤ n + count) × AtEnd last k f

  walk_in : (s : S) (n : ℕ) (ls : List Bytes) (f : Fault) → walk step finish s n ls ≡ refused f → Place n (length ls) f
  walk_in s n [] f e = (n, omega arith, omega arith, after s n f e)
  walk_in s n (l ∷ ls) f e = go (line_step step s l) (inside s l) (λ t. walk_in t (suc n) ls f) e
    where
      go : (x : Step S) → ((k : ℕ) → x ≡ wrong k → InLine k) → ((t : S) → walk step finish t (suc n) ls ≡ refused f → Place (suc n) (length ls) f) → go_on x n (λ t. walk step finish t (suc n) ls) ≡ refused f → Place n (suc (length ls)) f
      go (next t) here rest e = let (k, a, b, c) = rest t e in (k, omega arith, omega arith, c)
      go (wrong g) here rest e =
          let (low, most) = here g refl in
          let same : fault g n ≡ f = cc in
          (n, omega arith, omega arith, (g, low, omega arith, sym same ∙ ap (λ b. fault g (cond b n 0)) (sym (le-leb g 7 most))))

  told_at : (text : Bytes) (g k : ℕ) → length text ≤ 4096 → 2 ≤ g → g ≤ last → 1 ≤ k → k ≤ suc (length (lines text)) → Told last text (fault g (cond (leb g 7) k 0))
  told_at text g k short low most from to = record {
    least = omega arith;
    most = most;
    layer = refl;
    too_long = λ e. absurd (omega arith);
    long = λ e. absurd (omega arith);
    in_line = λ a b. let l : cond (leb g 7) k 0 ≡ k = cond-true (leb g 7) k 0 (le-leb g 7 b) in (omega arith, omega arith);
    no_line_before = λ a. absurd (omega arith);
    no_line_behind = λ a. cond-false (leb g 7) k 0 (lt-leb g 7 a);
  }

  pub read_told : (s : S) (text : Bytes) (f : Fault) → read step finish s text ≡ refused f → Told last text f
  read_told s text f e = go (leb (length text) 4096) refl e
    where
      go : (b : Bool) → leb (length text) 4096 ≡ b → sized b step finish s text ≡ refused f → Told last text f
      go true q e =
          let (k, a, b, (g, low, most, same)) = walk_in s 1 (lines text) f e in
          subst (Told last text) (sym same) (told_at text g k (leb-true (length text) 4096 q) low most a (omega arith))
      go false q e =
          let same : fault 1 0 ≡ f = cc in
          subst (Told last text) same (record {
            least = omega arith;
            most = omega arith;
            layer = refl;
            too_long = λ e. leb-false (length text) 4096 q;
            long = λ e. refl;
            in_line = λ a b. absurd (omega arith);
            no_line_before = λ a. refl;
            no_line_behind = λ a. refl;
          })

early : {A : Type 0} (last n : ℕ) (f : Fault) → 2 ≤ last → ◌≡◌ {A = Read A} (refused (fault 2 n)) (refused f) → AtEnd last n f
early last n f h e = let same : fault 2 n ≡ f = cc in (2, omega arith, h, sym same)

rule_after : (m : Model) (x : R.Section) (s : R.Reading) (n : ℕ) (f : Fault) → R.ended m x s n ≡ refused f → AtEnd 9 n f
rule_after m R.at_start s n f e = early 9 n f (omega arith) e
rule_after m R.in_source s n f e = early 9 n f (omega arith) e
rule_after m R.in_target s n f e = early 9 n f (omega arith) e
rule_after m R.at_end s n f e = go (R.rule_fault m s) (rule_behind m s) e
  where
    go : (o : Option ℕ) → ((k : ℕ) → o ≡ Some k → (7 < k) × (k ≤ 9)) → R.whole o (R.rule_of s) ≡ refused f → AtEnd 9 n f
    go None h e = let z : ◌≡◌ {A = ℕ} 0 1 = cc in absurd (omega arith)
    go (Some k) h e =
        let (low, most) = h k refl in
        let same : fault k 0 ≡ f = cc in
        (k, omega arith, most, sym same ∙ ap (λ b. fault k (cond b n 0)) (sym (lt-leb k 7 low)))

pub rules_told : (m : Model) → RulesTold m
rules_told m text f e = read_told (R.rule_step m) (R.rule_end m) 9 (omega arith) (rule_in m) (λ s n f e. rule_after m s.section s n f e) R.nothing_read text f e

program_after : (x : P.Section) (s : P.Reading) (n : ℕ) (f : Fault) → P.ended x s n ≡ refused f → AtEnd 7 n f
program_after P.at_start s n f e = early 7 n f (omega arith) e
program_after P.in_body s n f e = early 7 n f (omega arith) e
program_after P.at_end s n f e = let z : ◌≡◌ {A = ℕ} 0 1 = cc in absurd (omega arith)

pub programs_told : (m : Model) → ProgramsTold m
programs_told m text f e = read_told (P.program_step m) P.program_end 7 (omega arith) (program_in m) (λ s n f e. program_after s.section s n f e) P.nothing_read text f e
