-- The first line of a text with the byte that ends it.
use Rattle.std.proofs.Common.{◌≡◌, ℕ, suc, ◌+◌, ◌<◌, Bool, true, false, not, cond, [], ◌∷◌, ◌++◌, length, take, drop, sym, refl, ap, ◌∙◌, add-one, one-add, arith, length-drop}
use Rattle.std.specs.List.{position_or_len}
use Rattle.std.proofs.lemmas.List.{take-append-drop}
use Rattle.scan.specs.declared.Separators.TheVariants.{LineFeeds}
use Rattle.scan.specs.Pieces.{Bytes, separates, byte_before_whole, whole_lines, first_line, after_line}

-- how many bytes the first line has
abbrev size : Bytes → ℕ
size text = position_or_len (separates LineFeeds) text

whole_cut : (b : ℕ) (bs : Bytes) → whole_lines (b ∷ bs) ≡ take (suc (size (b ∷ bs))) (b ∷ bs) ∷ whole_lines (drop (suc (size (b ∷ bs))) (b ∷ bs))
whole_cut b [] = last (separates LineFeeds b)
  where
    last : (t : Bool) → byte_before_whole t b [] ≡ take (suc (cond (not t) 1 0)) (b ∷ []) ∷ whole_lines (drop (suc (cond (not t) 1 0)) (b ∷ []))
    last true = refl
    last false = refl
whole_cut b (x ∷ xs) = more (separates LineFeeds b) (size (x ∷ xs)) (whole_cut x xs)
  where
    more : (t : Bool) (n : ℕ) → whole_lines (x ∷ xs) ≡ take (suc n) (x ∷ xs) ∷ whole_lines (drop (suc n) (x ∷ xs)) → byte_before_whole t b (whole_lines (x ∷ xs)) ≡ take (suc (cond (not t) (1 + n) 0)) (b ∷ x ∷ xs) ∷ whole_lines (drop (suc (cond (not t) (1 + n) 0)) (b ∷ x ∷ xs))
    more true n e = refl
    more false n e = ap (byte_before_whole false b) e ∙ λ j. take (suc (sym (one-add n) j)) (b ∷ x ∷ xs) ∷ whole_lines (drop (suc (sym (one-add n) j)) (b ∷ x ∷ xs))

-- the end of a line is no part of the line
same_line : (bs : Bytes) → first_line (take (suc (size bs)) bs) ≡ first_line bs
same_line [] = refl
same_line (b ∷ bs) = go (separates LineFeeds b) refl (size bs) (same_line bs)
  where
    go : (t : Bool) → separates LineFeeds b ≡ t → (n : ℕ) → first_line (take (suc n) bs) ≡ take n bs → first_line (take (suc (cond (not t) (1 + n) 0)) (b ∷ bs)) ≡ take (cond (not t) (1 + n) 0) (b ∷ bs)
    go true e n h = ap (λ t. take (cond (not t) 1 0) (b ∷ [])) e
    go false e n h =
        let m = size (take (suc n) bs) in
        ap (λ k. first_line (take (suc k) (b ∷ bs))) (one-add n)
        ∙ ap (λ t. take (cond (not t) (1 + m) 0) (b ∷ take (suc n) bs)) e
        ∙ ap (λ k. take k (b ∷ take (suc n) bs)) (one-add m)
        ∙ ap (λ l. b ∷ l) h
        ∙ ap (λ k. take k (b ∷ bs)) (sym (one-add n))

-- a text is its first line with its end, and the rest
pub record FirstWhole (text first rest : Bytes) : Type 0 where
  pub whole : Bytes
  pub lines : whole_lines text ≡ whole ∷ whole_lines rest
  pub bytes : text ≡ whole ++ rest
  pub line : first_line whole ≡ first
  pub shorter : length rest < length text

pub first_whole : (text line rest : Bytes) → line ≡ first_line text → rest ≡ after_line text → 0 < length text → FirstWhole text line rest
first_whole [] line rest el er h = absurd (omega arith)
first_whole (b ∷ bs) line rest el er h =
    let text = b ∷ bs in
    let n = suc (size text) in
    let cut : rest ≡ drop n text = er ∙ ap (λ k. drop k text) (add-one (size text)) in
    record {
      whole = take n text;
      lines = whole_cut b bs ∙ ap (λ l. take n text ∷ whole_lines l) (sym cut);
      bytes = sym (take-append-drop n text) ∙ ap (λ l. take n text ++ l) (sym cut);
      line = same_line text ∙ sym el;
      shorter = omega (arith, ap length cut, length-drop n text);
    }
