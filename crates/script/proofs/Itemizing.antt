-- One item more of a script, and its end. Assumes nothing.
use Rattle.std.proofs.Common.{◌≡◌, ℕ, suc, ◌+◌, ◌<◌, Bool, true, false, cond, List, [], ◌∷◌, ◌++◌, length, Some, None, Option, sym, refl, ap, ◌∙◌, append_assoc, append-nil, arith}
use Rattle.scan.specs.Pieces.{Bytes, first_line, after_line, whole_lines}
use Rattle.scan.proofs.Wholes.{first_whole}
use Rattle.script.specs.Lines.{Ordered, line_read}
use Rattle.script.specs.TextLines.{closes, text_of, behind_text, lines_passed}
use Rattle.script.specs.Items.{Item, has_text, item_of, with_more, items_from}
use Rattle.script.specs.Transcripts.{Current, Told, step_of, printed, transcript}

abbrev item : ℕ → Ordered → Bytes → Item
item n order text = record { line = n; order = order; text = text }

-- an open item takes the text at the front of the lines
closed_item : (i : Item) (n : ℕ) (ls : List Bytes) → items_from (Some i) n ls ≡ with_more i (text_of ls) ∷ items_from None (n + lines_passed ls) (behind_text ls)
closed_item i n [] = ap (λ t. item i.line i.order t ∷ []) (sym (append-nil i.text))
closed_item i n (l ∷ ls) = go (closes l) (closed_item (with_more i l) (n + 1) ls)
  where
    go : (t : Bool) → items_from (Some (with_more i l)) (n + 1) ls ≡ with_more (with_more i l) (text_of ls) ∷ items_from None (n + 1 + lines_passed ls) (behind_text ls) → cond t (i ∷ items_from None (n + 1) ls) (items_from (Some (with_more i l)) (n + 1) ls) ≡ with_more i (cond t [] (l ++ text_of ls)) ∷ items_from None (n + cond t 1 (suc (lines_passed ls))) (cond t ls (behind_text ls))
    go true more = ap (λ t. item i.line i.order t ∷ items_from None (n + 1) ls) (sym (append-nil i.text))
    go false more =
        let count : n + 1 + lines_passed ls ≡ n + suc (lines_passed ls) = omega arith in
        more ∙ λ j. item i.line i.order (append_assoc i.text l (text_of ls) j) ∷ items_from None (count j) (behind_text ls)

-- a line takes the text behind it where one follows
item_cut : (n : ℕ) (l : Bytes) (ls : List Bytes) → let t = has_text (line_read (first_line l)) in
    items_from None n (l ∷ ls) ≡ item n (line_read (first_line l)) (cond t (text_of ls) []) ∷ items_from None (n + (1 + cond t (lines_passed ls) 0)) (cond t (behind_text ls) ls)
item_cut n l ls = go (has_text (line_read (first_line l)))
  where
    go : (t : Bool) → cond t (items_from (Some (item_of n l)) (n + 1) ls) (item_of n l ∷ items_from None (n + 1) ls) ≡ item n (line_read (first_line l)) (cond t (text_of ls) []) ∷ items_from None (n + (1 + cond t (lines_passed ls) 0)) (cond t (behind_text ls) ls)
    go true =
        let count : n + 1 + lines_passed ls ≡ n + (1 + lines_passed ls) = omega arith in
        closed_item (item_of n l) (n + 1) ls ∙ ap (λ k. item n (line_read (first_line l)) (text_of ls) ∷ items_from None k (behind_text ls)) count
    go false = refl

-- what the code has of an item: its line, and the text that it takes from what is behind the line
pub record CutOff (rest line after bytes left : Bytes) (order : Ordered) (k : ℕ) : Type 0 where
  pub more : 0 < length rest
  pub first : line ≡ first_line rest
  pub behind : after ≡ after_line rest
  pub says : order ≡ line_read line
  pub text : bytes ≡ cond (has_text order) (text_of (whole_lines after)) []
  pub lines : whole_lines left ≡ cond (has_text order) (behind_text (whole_lines after)) (whole_lines after)
  pub count : k ≡ cond (has_text order) (lines_passed (whole_lines after)) 0

first_item : (n : ℕ) (rest line after bytes left : Bytes) (order : Ordered) (k : ℕ) → CutOff rest line after bytes left order k → items_from None n (whole_lines rest) ≡ item n order bytes ∷ items_from None (n + (1 + k)) (whole_lines left)
first_item n rest line after bytes left order k c =
    let w = first_whole rest line after c.first c.behind c.more in
    let ls = whole_lines after in
    let same : line_read (first_line w.whole) ≡ order = ap line_read w.line ∙ sym c.says in
    ap (items_from None n) w.lines ∙ item_cut n w.whole ls ∙
    ap (λ o. item n o (cond (has_text o) (text_of ls) []) ∷ items_from None (n + (1 + cond (has_text o) (lines_passed ls) 0)) (cond (has_text o) (behind_text ls) ls)) same ∙
    λ j. item n order (sym c.text j) ∷ items_from None (n + (1 + sym c.count j)) (sym c.lines j)

pub one_item : (s s2 : Current) (n : ℕ) (rest line after bytes left : Bytes) (order : Ordered) (k : ℕ) (a : Option Told) (out out2 : Bytes) → CutOff rest line after bytes left order k →
    a ≡ (step_of s n order bytes).answer → s2 ≡ (step_of s n order bytes).after → out2 ≡ out ++ printed a →
    out2 ++ transcript s2 (items_from None (n + (1 + k)) (whole_lines left)) ≡ out ++ transcript s (items_from None n (whole_lines rest))
one_item s s2 n rest line after bytes left order k a out out2 c told next more =
    let is = items_from None (n + (1 + k)) (whole_lines left) in
    ap (λ o. o ++ transcript s2 is) more
    ∙ append_assoc out (printed a) (transcript s2 is)
    ∙ ap (λ l. out ++ l) ((λ j. printed (told j) ++ transcript (next j) is) ∙ ap (transcript s) (sym (first_item n rest line after bytes left order k c)))

pub no_item : (s : Current) (n : ℕ) (rest out : Bytes) → length rest ≡ 0 → out ≡ out ++ transcript s (items_from None n (whole_lines rest))
no_item s n [] out h = sym (append-nil out)
no_item s n (b ∷ bs) out h = absurd (omega arith)
