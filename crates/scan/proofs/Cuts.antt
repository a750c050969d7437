-- The first piece of a text, and the first word among pieces.
use Rattle.std.proofs.Common.{◌≡◌, ℕ, suc, ◌+◌, ◌<◌, ◌≤◌, Bool, true, false, not, cond, List, [], ◌∷◌, length, take, drop, Some, None, Option, sym, refl, ap, ◌∙◌, one-add, arith, Bor}
use Rattle.std.specs.List.{position_or_len, before_first, after_first}
use Rattle.std.specs.Option.{MatchOption}
use Rattle.scan.specs.Pieces.{Bytes, byte_before, pieces, non_empty}

pieces_cut : (ends : ℕ → Bool) (b : ℕ) (bs : Bytes) → pieces ends (b ∷ bs) ≡ before_first ends (b ∷ bs) ∷ pieces ends (after_first ends (b ∷ bs))
pieces_cut ends b [] = last (ends b)
  where
    last : (t : Bool) → byte_before t b [] ≡ take (cond (not t) 1 0) (b ∷ []) ∷ pieces ends (drop (cond (not t) 1 0 + 1) (b ∷ []))
    last true = refl
    last false = refl
pieces_cut ends b (x ∷ xs) = more (ends b) (position_or_len ends (x ∷ xs)) (pieces_cut ends x xs)
  where
    more : (t : Bool) (n : ℕ) → pieces ends (x ∷ xs) ≡ take n (x ∷ xs) ∷ pieces ends (drop (n + 1) (x ∷ xs)) → byte_before t b (pieces ends (x ∷ xs)) ≡ take (cond (not t) (1 + n) 0) (b ∷ x ∷ xs) ∷ pieces ends (drop (cond (not t) (1 + n) 0 + 1) (b ∷ x ∷ xs))
    more true n e = refl
    more false n e =
        let shift : suc (n + 1) ≡ 1 + n + 1 = omega arith in
        ap (byte_before false b) e ∙ λ j. take (sym (one-add n) j) (b ∷ x ∷ xs) ∷ pieces ends (drop (shift j) (b ∷ x ∷ xs))

-- each piece has a byte, or one that ends it
pub few_pieces : (ends : ℕ → Bool) (bs : Bytes) → length (pieces ends bs) ≤ length bs
few_pieces ends [] = omega arith
few_pieces ends (b ∷ bs) = go (ends b) (pieces ends bs) (few_pieces ends bs)
  where
    go : (t : Bool) (ps : List Bytes) → length ps ≤ length bs → length (byte_before t b ps) ≤ suc (length bs)
    go true ps h = omega arith
    go false [] h = omega arith
    go false (p ∷ ps) h = omega arith

-- a text that is not empty has a first piece
pub first_piece : (ends : ℕ → Bool) (text piece rest : Bytes) → 0 < length text → piece ≡ before_first ends text → rest ≡ after_first ends text → pieces ends text ≡ piece ∷ pieces ends rest
first_piece ends [] piece rest h e f = absurd (omega arith)
first_piece ends (b ∷ bs) piece rest h e f = pieces_cut ends b bs ∙ λ j. sym e j ∷ pieces ends (sym f j)

-- the separators at the front come before no word
words_skip : (ends : ℕ → Bool) (bs : Bytes) → non_empty (pieces ends bs) ≡ non_empty (pieces ends (drop (position_or_len (λ b. not (ends b)) bs) bs))
words_skip ends [] = refl
words_skip ends (b ∷ bs) = go (ends b) (position_or_len (λ c. not (ends c)) bs) refl (words_skip ends bs)
  where
    go : (t : Bool) (n : ℕ) → ends b ≡ t → non_empty (pieces ends bs) ≡ non_empty (pieces ends (drop n bs)) → non_empty (byte_before t b (pieces ends bs)) ≡ non_empty (pieces ends (drop (cond (not (not t)) (1 + n) 0) (b ∷ bs)))
    go true n e h = h ∙ ap (λ k. non_empty (pieces ends (drop k (b ∷ bs)))) (sym (one-add n))
    go false n e h = ap (λ t. non_empty (byte_before t b (pieces ends bs))) (sym e)

-- a piece that begins behind them is not empty
starts_word : (ends : ℕ → Bool) (bs w : Bytes) (ws : List Bytes) → pieces ends (drop (position_or_len (λ b. not (ends b)) bs) bs) ≡ w ∷ ws → 0 < length w
starts_word ends [] w ws e = absurd (cc)
starts_word ends (b ∷ bs) w ws e = go (ends b) (position_or_len (λ c. not (ends c)) bs) refl (starts_word ends bs w ws) e
  where
    begun : (ps : List Bytes) → byte_before false b ps ≡ w ∷ ws → 0 < length w
    begun [] h = let k : w ≡ b ∷ [] = cc in omega (arith, ap length k)
    begun (p ∷ ps) h = let k : w ≡ b ∷ p = cc in omega (arith, ap length k)

    go : (t : Bool) (n : ℕ) → ends b ≡ t → (pieces ends (drop n bs) ≡ w ∷ ws → 0 < length w) → pieces ends (drop (cond (not (not t)) (1 + n) 0) (b ∷ bs)) ≡ w ∷ ws → 0 < length w
    go true n s next h = next (ap (λ k. pieces ends (drop k (b ∷ bs))) (sym (one-add n)) ∙ h)
    go false n s next h = begun (pieces ends bs) (ap (λ t. byte_before t b (pieces ends bs)) (sym s) ∙ h)

word_first : (w : Bytes) (ps : List Bytes) → 0 < length w → non_empty (w ∷ ps) ≡ w ∷ non_empty ps
word_first [] ps h = absurd (omega arith)
word_first (b ∷ w) ps h = refl

-- so the first piece behind them is the first word
pub word_found :
    (ends : ℕ → Bool) (bs rest : Bytes) (us : List Bytes) (r : Option (Bor Bytes)) → rest ≡ drop (position_or_len (λ b. not (ends b)) bs) bs →
    MatchOption r ((pieces ends rest ≡ []) × (us ≡ [])) (λ x. pieces ends rest ≡ x.now ∷ us) →
    MatchOption r ((non_empty (pieces ends bs) ≡ []) × (non_empty us ≡ [])) (λ x. non_empty (pieces ends bs) ≡ x.now ∷ non_empty us)
word_found ends bs rest us None e h = (words_skip ends bs ∙ ap non_empty (ap (pieces ends) (sym e) ∙ h.0), ap non_empty h.1)
word_found ends bs rest us (Some x) e h =
    let begins = ap (pieces ends) (sym e) ∙ h in
    words_skip ends bs ∙ ap non_empty begins ∙ word_first x.now us (starts_word ends bs x.now us begins)
