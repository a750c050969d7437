-- A text is refused at its first faulty line, or at the line after the last where more had to follow. Assumes nothing.
use Rattle.std.proofs.Common.{◌≡◌, ℕ, suc, ◌+◌, ◌<◌, ◌≤◌, ◌↔◌, List, [], ◌∷◌, ◌++◌, length, Some, None, Option, sym, refl, ap, ◌∙◌, subst, inl, inr, append-nil, arith}
use Rattle.std.proofs.lemmas.Bool.{le-leb}
use Rattle.domain.specs.Model.{Model}
use Rattle.scan.specs.Pieces.{Bytes, lines}
use Rattle.text.specs.Forms.{Form}
use Rattle.text.specs.Faults.{fault, Read, refused, Step, next, wrong, line_step, go_on, walk, sized, read}
use Rattle.text.specs.Lines.{Reads, no_lines, one_more, FirstFaulty}
use Rattle.text.specs.Refused.{RulesFirstLine, ProgramsFirstLine}
use Rattle.text.specs.RuleTexts as R
use Rattle.text.specs.ProgramTexts as P
use Rattle.text.proofs.FaultNumbers.{InLine, rule_in, rule_behind, program_in}
use Rattle.text.proofs.Spaced.{walk_on}

module _ {S A : Type 0} (step : S → Form → Step S) (finish : S → ℕ → Read A) where
  -- accepted lines lead on to the rest
  walk_reads : {s u : S} {front : List Bytes} → Reads step s front u → (n : ℕ) (rest : List Bytes) → walk step finish s n (front ++ rest) ≡ walk step finish u (length front + n) rest
  walk_reads {s} no_lines n rest = ap (λ k. walk step finish s k rest) (let e : n ≡ 0 + n = omega arith in e)
  walk_reads {s} {u} (one_more {t = t} {l = l} {ls = ls} e r) n rest =
      walk_on step finish s t n l (ls ++ rest) e ∙ walk_reads r (suc n) rest ∙ ap (λ k. walk step finish u k rest) (let e : length ls + suc n ≡ suc (length ls) + n = omega arith in e)

module _ {S A : Type 0} (step : S → Form → Step S) (finish : S → ℕ → Read A) (Unfinished : S → Type 0) (inside : (s : S) (l : Bytes) (k : ℕ) → line_step step s l ≡ wrong k → InLine k)
    (early : (s : S) (n : ℕ) → Unfinished s → finish s n ≡ refused (fault 2 n))
    (only-early : (s : S) (n k j : ℕ) → finish s n ≡ refused (fault k j) → InLine k → Unfinished s × (k ≡ 2) × (j ≡ n)) where
  abbrev First : S → List Bytes → ℕ → ℕ → Type 0
  First s ls k i = FirstFaulty step Unfinished s ls k i

  -- one accepted line before
  one_before : (s t : S) (l : Bytes) (ls : List Bytes) (k i : ℕ) → line_step step s l ≡ next t → First t ls k i → First s (l ∷ ls) k (suc i)
  one_before s t l ls k i e (inl f) = inl (record { front = l ∷ f.front; line = f.line; back = f.back; state = f.state; split = ap (λ xs. l ∷ xs) f.split; place = let p = f.place in omega arith; before = one_more e f.before; at_fault = f.at_fault })
  one_before s t l ls k i e (inr f) = inr (record { state = f.state; before = one_more e f.before; unfinished = f.unfinished; number = f.number; place = let p = f.place in omega arith })

  -- a refusal at line j of a walk from line n, where the i-th of the lines is the first faulty one
  walk_finds : (s : S) (n : ℕ) (ls : List Bytes) (k j : ℕ) → InLine k → walk step finish s n ls ≡ refused (fault k j) → (i : ℕ) × (j + 1 ≡ n + i) × First s ls k i
  walk_finds s n [] k j h e =
      let (u, number, place) = only-early s n k j e h in
      (1, omega arith, inr (record { state = s; before = no_lines; unfinished = u; number = number; place = refl }))
  walk_finds s n (l ∷ ls) k j h e = go (line_step step s l) refl (λ t. walk_finds t (suc n) ls k j h) e
    where
      go : (x : Step S) → line_step step s l ≡ x → ((t : S) → walk step finish t (suc n) ls ≡ refused (fault k j) → (i : ℕ) × (j + 1 ≡ suc n + i) × First t ls k i) →
          go_on x n (λ t. walk step finish t (suc n) ls) ≡ refused (fault k j) → (i : ℕ) × (j + 1 ≡ n + i) × First s (l ∷ ls) k i
      go (next t) q rest e = let (i, place, f) = rest t e in (suc i, omega arith, one_before s t l ls k i q f)
      go (wrong g) q rest e =
          let same : fault g n ≡ fault k j = cc in
          let place = ap (λ f. f.line) same in
          (1, omega arith, inl (record { front = []; line = l; back = ls; state = s; split = refl; place = refl; before = no_lines; at_fault = q ∙ ap (λ f. wrong f.number) same }))

  walk_told : (s : S) (ls : List Bytes) (k n : ℕ) → First s ls k n → InLine k × (walk step finish s 1 ls ≡ refused (fault k n))
  walk_told s ls k n (inl f) = (
    inside f.state f.line k f.at_fault,
    ap (walk step finish s 1) f.split
        ∙ walk_reads step finish f.before 1 (f.line ∷ f.back)
        ∙ ap (λ x. go_on x (length f.front + 1) (λ t. walk step finish t (suc (length f.front + 1)) f.back)) f.at_fault
        ∙ ap (λ j. refused (fault k j)) f.place,
  )
  walk_told s ls k n (inr f) =
      let number = f.number in (
        (omega arith, omega arith),
        ap (walk step finish s 1) (sym (append-nil ls))
            ∙ walk_reads step finish f.before 1 []
            ∙ early f.state (length ls + 1) f.unfinished
            ∙ (λ i. refused (fault (sym number i) (f.place i))),
      )

  pub read_first : (s : S) (text : Bytes) → length text ≤ 4096 → (k n : ℕ) → ((2 ≤ k) × (k ≤ 7) × (read step finish s text ≡ refused (fault k n))) ↔ First s (lines text) k n
  read_first s text h k n = (to, from)
    where
      starts : read step finish s text ≡ walk step finish s 1 (lines text)
      starts = ap (λ b. sized b step finish s text) (le-leb (length text) 4096 h)

      to : (2 ≤ k) × (k ≤ 7) × (read step finish s text ≡ refused (fault k n)) → First s (lines text) k n
      to (low, high, e) =
          let (i, place, f) = walk_finds s 1 (lines text) k n (low, high) (sym starts ∙ e) in
          let same : i ≡ n = omega arith in
          subst (First s (lines text) k) same f

      from : First s (lines text) k n → (2 ≤ k) × (k ≤ 7) × (read step finish s text ≡ refused (fault k n))
      from f = let ((low, high), e) = walk_told s (lines text) k n f in (low, high, starts ∙ e)

-- where a text of a rule may not end
rule_early : (m : Model) (x : R.Section) (s : R.Reading) (n : ℕ) → (x ≡ R.at_end → ⊥) → R.ended m x s n ≡ refused (fault 2 n)
rule_early m R.at_start s n h = refl
rule_early m R.in_source s n h = refl
rule_early m R.in_target s n h = refl
rule_early m R.at_end s n h = absurd (h refl)

two : {A : Type 0} (n k j : ℕ) → ◌≡◌ {A = Read A} (refused (fault 2 n)) (refused (fault k j)) → (k ≡ 2) × (j ≡ n)
two n k j e = let same : fault 2 n ≡ fault k j = cc in (sym (ap (λ f. f.number) same), sym (ap (λ f. f.line) same))

rule_only : (m : Model) (x : R.Section) (s : R.Reading) (n k j : ℕ) → R.ended m x s n ≡ refused (fault k j) → InLine k → (x ≡ R.at_end → ⊥) × (k ≡ 2) × (j ≡ n)
rule_only m R.at_start s n k j e h = let (a, b) = two n k j e in (λ q. let z : ◌≡◌ {A = ℕ} 0 1 = cc in omega arith, a, b)
rule_only m R.in_source s n k j e h = let (a, b) = two n k j e in (λ q. let z : ◌≡◌ {A = ℕ} 0 1 = cc in omega arith, a, b)
rule_only m R.in_target s n k j e h = let (a, b) = two n k j e in (λ q. let z : ◌≡◌ {A = ℕ} 0 1 = cc in omega arith, a, b)
rule_only m R.at_end s n k j e h = absurd (go (R.rule_fault m s) (rule_behind m s) e)
  where
    go : (o : Option ℕ) → ((g : ℕ) → o ≡ Some g → (7 < g) × (g ≤ 9)) → R.whole o (R.rule_of s) ≡ refused (fault k j) → ⊥
    go None b e = let z : ◌≡◌ {A = ℕ} 0 1 = cc in omega arith
    go (Some g) b e = let same : fault g 0 ≡ fault k j = cc in let number = ap (λ f. f.number) same in let (low, high) = b g refl in let z = h.1 in omega arith

pub rules_first_line : (m : Model) → RulesFirstLine m
rules_first_line m = read_first (R.rule_step m) (R.rule_end m) (λ s. s.section ≡ R.at_end → ⊥) (rule_in m) (λ s n. rule_early m s.section s n) (λ s n k j. rule_only m s.section s n k j) R.nothing_read

-- where a text of a program may not end
program_early : (x : P.Section) (s : P.Reading) (n : ℕ) → (x ≡ P.at_end → ⊥) → P.ended x s n ≡ refused (fault 2 n)
program_early P.at_start s n h = refl
program_early P.in_body s n h = refl
program_early P.at_end s n h = absurd (h refl)

program_only : (x : P.Section) (s : P.Reading) (n k j : ℕ) → P.ended x s n ≡ refused (fault k j) → (x ≡ P.at_end → ⊥) × (k ≡ 2) × (j ≡ n)
program_only P.at_start s n k j e = let (a, b) = two n k j e in (λ q. let z : ◌≡◌ {A = ℕ} 0 1 = cc in omega arith, a, b)
program_only P.in_body s n k j e = let (a, b) = two n k j e in (λ q. let z : ◌≡◌ {A = ℕ} 0 1 = cc in omega arith, a, b)
program_only P.at_end s n k j e = let z : ◌≡◌ {A = ℕ} 0 1 = cc in absurd (omega arith)

pub programs_first_line : (m : Model) → ProgramsFirstLine m
programs_first_line m = read_first (P.program_step m) P.program_end (λ s. s.section ≡ P.at_end → ⊥) (program_in m) (λ s n. program_early s.section s n) (λ s n k j e h. program_only s.section s n k j e) P.nothing_read
