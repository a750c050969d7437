-- A text passed over line by line. Assumes nothing.
use Rattle.std.proofs.Common.{◌≡◌, ℕ, suc, ◌+◌, ◌-◌, ◌<◌, ◌≤◌, true, false, [], ◌∷◌, ◌++◌, length, take, codes, sym, refl, ap, ◌∙◌, append_assoc, append-nil, arith}
use Rattle.std.proofs.lemmas.List.{length-append, take_at}
use Rattle.std.proofs.lemmas.Bool.{cond-true, cond-false}
use Rattle.vocabulary.specs.Names.{same_word}
use Rattle.scan.specs.Pieces.{Bytes, first_line, after_line, whole_lines}
use Rattle.scan.proofs.Wholes.{FirstWhole, first_whole}
use Rattle.script.specs.TextLines.{closes, text_of, behind_text, lines_passed}

-- what is passed and what is left make the whole
pub record Passed (script rest : Bytes) (lines : ℕ) : Type 0 where
  pub front : Bytes
  pub is : script ≡ front ++ rest
  pub text : text_of (whole_lines script) ≡ front ++ text_of (whole_lines rest)
  pub behind : behind_text (whole_lines script) ≡ behind_text (whole_lines rest)
  pub passed : lines_passed (whole_lines script) ≡ lines + lines_passed (whole_lines rest)
  pub bound : lines + length rest ≤ length script

pub starts : (script : Bytes) → Passed script script 0
starts script = record { front = []; is = refl; text = refl; behind = refl; passed = omega arith; bound = omega arith }

-- a text that has come to its end, or to the line that closes it
pub record Over (script text left : Bytes) (passed : ℕ) : Type 0 where
  pub bytes : text ≡ text_of (whole_lines script)
  pub rest : whole_lines left ≡ behind_text (whole_lines script)
  pub lines : passed ≡ lines_passed (whole_lines script)
  pub bound : passed + length left ≤ length script

module _ (script rest : Bytes) (lines : ℕ) (p : Passed script rest lines) where
  pub unclosed : length rest ≡ 0 → Over script script rest lines
  unclosed z = let e = none rest z in record {
    bytes = p.is ∙ ap (λ r. p.front ++ r) e ∙ sym (p.text ∙ ap (λ r. p.front ++ text_of (whole_lines r)) e);
    rest = ap whole_lines e ∙ sym (p.behind ∙ ap (λ r. behind_text (whole_lines r)) e);
    lines = let n = ap (λ r. lines_passed (whole_lines r)) e in omega (arith, p.passed);
    bound = p.bound;
  }
    where
      none : (r : Bytes) → length r ≡ 0 → r ≡ []
      none [] h = refl
      none (b ∷ r) h = absurd (omega arith)

  module _ (line after : Bytes) (el : line ≡ first_line rest) (er : after ≡ after_line rest) (h : 0 < length rest) where
    w : FirstWhole rest line after
    w = first_whole rest line after el er h

    -- both ways begin with the next line
    same_test : same_word line (codes ".") ≡ closes w.whole
    same_test = ap (λ l. same_word l (codes ".")) (sym w.line)

    pub closed : same_word line (codes ".") ≡ true → Over script (take (length script - length rest) script) after (lines + 1)
    closed t =
        let c = sym same_test ∙ t in
        let ws = whole_lines after in
        let long : length p.front ≡ length script - length rest = let e = ap length p.is in let l = length-append p.front rest in omega arith in
        record {
          bytes = ap (take (length script - length rest)) p.is ∙ take_at p.front rest (length script - length rest) long ∙ sym (append-nil p.front) ∙
              sym (p.text ∙ ap (λ l. p.front ++ text_of l) w.lines ∙ ap (λ l. p.front ++ l) (cond-true (closes w.whole) [] (w.whole ++ text_of ws) c));
          rest = sym (p.behind ∙ ap behind_text w.lines ∙ cond-true (closes w.whole) ws (behind_text ws) c);
          lines = let n = ap lines_passed w.lines ∙ cond-true (closes w.whole) 1 (suc (lines_passed ws)) c in omega (arith, p.passed);
          bound = let s = w.shorter in omega (arith, p.bound);
        }

    pub goes_on : same_word line (codes ".") ≡ false → Passed script after (lines + 1)
    goes_on t =
        let c = sym same_test ∙ t in
        let ws = whole_lines after in
        record {
          front = p.front ++ w.whole;
          is = p.is ∙ ap (λ r. p.front ++ r) w.bytes ∙ sym (append_assoc p.front w.whole after);
          text = p.text ∙ ap (λ l. p.front ++ text_of l) w.lines ∙ ap (λ l. p.front ++ l) (cond-false (closes w.whole) [] (w.whole ++ text_of ws) c) ∙ sym (append_assoc p.front w.whole (text_of ws));
          behind = p.behind ∙ ap behind_text w.lines ∙ cond-false (closes w.whole) ws (behind_text ws) c;
          passed = let n = ap lines_passed w.lines ∙ cond-false (closes w.whole) 1 (suc (lines_passed ws)) c in omega (arith, p.passed);
          bound = let s = w.shorter in omega (arith, p.bound);
        }
