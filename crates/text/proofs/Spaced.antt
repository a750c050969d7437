-- Lines and words of a text that was put together from words. Assumes nothing.
use Rattle.std.proofs.Common.{◌≡◌, ℕ, suc, ◌+◌, ◌*◌, ◌≤◌, Bool, true, false, cond, not, ◌&&◌, eqb, List, [], ◌∷◌, ◌++◌, map, length, refl, ap, ◌∙◌, arith, length-append}
use Rattle.std.proofs.lemmas.Bool.{and_parts, not-true, or_from}
use Rattle.semantics.specs.Programs.{All, all}
use Rattle.scan.specs.declared.Separators.TheVariants.{LineFeeds, SpacesAndCommas}
use Rattle.scan.specs.Pieces.{Bytes, byte_before, pieces, lines, separates, non_empty, words, no_word}
use Rattle.text.specs.Forms.{Form, form}
use Rattle.text.specs.Faults.{Read, Step, next, begins, skipped, formed_line, line_step, go_on, walk}
use Rattle.text.specs.Writing.{spaced, text_of}

-- a byte of a word: it separates no words and ends no line
abbrev pub solid : ℕ → Bool
solid b = not (separates SpacesAndCommas b) && not (separates LineFeeds b)

-- a word of 1 to 6 such bytes
pub record Good (w : Bytes) : Type 0 where
  pub some : 1 ≤ length w
  pub short : length w ≤ 6
  pub solid_bytes : all solid w ≡ true

-- a piece is cut off where it ends
pub piece_before : (ends : ℕ → Bool) (p : Bytes) (b : ℕ) (rest : Bytes) → all (λ x. not (ends x)) p ≡ true → ends b ≡ true → pieces ends (p ++ b ∷ rest) ≡ p ∷ pieces ends rest
piece_before ends [] b rest s e = ap (λ t. byte_before t b (pieces ends rest)) e
piece_before ends (x ∷ p) b rest s e =
    let (here, later) = and_parts (not (ends x)) (all (λ x. not (ends x)) p) s in
    ap (λ t. byte_before t x (pieces ends (p ++ b ∷ rest))) (not-true (ends x) here) ∙ ap (byte_before false x) (piece_before ends p b rest later e)

pub piece_alone : (ends : ℕ → Bool) (x : ℕ) (p : Bytes) → all (λ x. not (ends x)) (x ∷ p) ≡ true → pieces ends (x ∷ p) ≡ (x ∷ p) ∷ []
piece_alone ends x [] s = ap (λ t. byte_before t x []) (not-true (ends x) (and_parts (not (ends x)) true s).0)
piece_alone ends x (y ∷ p) s =
    let (here, later) = and_parts (not (ends x)) (all (λ x. not (ends x)) (y ∷ p)) s in
    ap (λ t. byte_before t x (pieces ends (y ∷ p))) (not-true (ends x) here) ∙ ap (byte_before false x) (piece_alone ends y p later)

all_weaker : (p q : ℕ → Bool) → ((b : ℕ) → p b ≡ true → q b ≡ true) → (w : Bytes) → all p w ≡ true → all q w ≡ true
all_weaker p q f [] e = refl
all_weaker p q f (b ∷ w) e = let (here, later) = and_parts (p b) (all p w) e in go (q b) (f b here) (all_weaker p q f w later)
  where
    go : (t : Bool) → t ≡ true → all q w ≡ true → (t && all q w) ≡ true
    go t h l = rw h l

all_join : (p : ℕ → Bool) (v w : Bytes) → all p v ≡ true → all p w ≡ true → all p (v ++ w) ≡ true
all_join p [] w e f = f
all_join p (b ∷ v) w e f = let (here, later) = and_parts (p b) (all p v) e in rw here (all_join p v w later f)

pub all_by : (p q : ℕ → Bool) → ((b : ℕ) → p b ≡ true → q b ≡ true) → (w : Bytes) → all p w ≡ true → all q w ≡ true
all_by p q f w e = all_weaker p q f w e

unseparated : (w : Bytes) → Good w → all (λ b. not (separates SpacesAndCommas b)) w ≡ true
unseparated w g = all_weaker solid (λ b. not (separates SpacesAndCommas b)) (λ b e. (and_parts (not (separates SpacesAndCommas b)) (not (separates LineFeeds b)) e).0) w g.solid_bytes

unended : (w : Bytes) → Good w → all (λ b. not (separates LineFeeds b)) w ≡ true
unended w g = all_weaker solid (λ b. not (separates LineFeeds b)) (λ b e. (and_parts (not (separates SpacesAndCommas b)) (not (separates LineFeeds b)) e).1) w g.solid_bytes

words_spaced : (ws : List Bytes) → All Good ws → words SpacesAndCommas (spaced ws) ≡ ws
words_spaced [] g = refl
words_spaced ([] ∷ ws) g = let h = g.0.some in absurd (omega arith)
words_spaced ((b ∷ w) ∷ []) g = ap non_empty (piece_alone (separates SpacesAndCommas) b w (unseparated (b ∷ w) g.0))
words_spaced ((b ∷ w) ∷ v ∷ ws) g =
    ap non_empty (piece_before (separates SpacesAndCommas) (b ∷ w) 32 (spaced (v ∷ ws)) (unseparated (b ∷ w) g.0) refl) ∙ ap (λ l. (b ∷ w) ∷ l) (words_spaced (v ∷ ws) g.1)

spaced_unended : (ws : List Bytes) → All Good ws → all (λ b. not (separates LineFeeds b)) (spaced ws) ≡ true
spaced_unended [] g = refl
spaced_unended (w ∷ []) g = unended w g.0
spaced_unended (w ∷ v ∷ ws) g = all_join (λ b. not (separates LineFeeds b)) w (32 ∷ spaced (v ∷ ws)) (unended w g.0) (spaced_unended (v ∷ ws) g.1)

pub lines_text : (ls : List (List Bytes)) → All (All Good) ls → lines (text_of ls) ≡ map spaced ls
lines_text [] g = refl
lines_text (ws ∷ ls) g = piece_before (separates LineFeeds) (spaced ws) 10 (text_of ls) (spaced_unended ws g.0) refl ∙ ap (λ l. spaced ws ∷ l) (lines_text ls g.1)

length_spaced : (w : Bytes) (ws : List Bytes) → All Good (w ∷ ws) → length (spaced (w ∷ ws)) + 1 ≤ 7 * length (w ∷ ws)
length_spaced w [] g = let h = g.0.short in omega arith
length_spaced w (v ∷ ws) g =
    let h = g.0.short in
    let e = length-append w (32 ∷ spaced (v ∷ ws)) in
    let r = length_spaced v ws g.1 in
    omega arith

-- how many words there are
abbrev pub word_count : List (List Bytes) → ℕ
word_count [] = 0
word_count (ws ∷ ls) = length ws + word_count ls

abbrev pub Filled : List Bytes → Type 0
Filled ws = (1 ≤ length ws) × All Good ws

pub length_text : (ls : List (List Bytes)) → All Filled ls → length (text_of ls) ≤ 7 * word_count ls
length_text [] g = omega arith
length_text ([] ∷ ls) g = let h = g.0.0 in absurd (omega arith)
length_text ((w ∷ ws) ∷ ls) g =
    let a = length_spaced w ws g.0.1 in
    let b = length-append (spaced (w ∷ ws)) (10 ∷ text_of ls) in
    let r = length_text ls g.1 in
    omega arith

first_byte : (c b : ℕ) (w : Bytes) (ws : List Bytes) → begins c (spaced ((b ∷ w) ∷ ws)) ≡ eqb c b
first_byte c b w [] = refl
first_byte c b w (v ∷ ws) = refl

-- a line of words, the first of which does not begin with `;`, is read by its form
pub step_spaced : {S : Type 0} (step : S → Form → Step S) (s : S) (b : ℕ) (w : Bytes) (ws : List Bytes) → All Good ((b ∷ w) ∷ ws) → eqb 59 b ≡ false → line_step step s (spaced ((b ∷ w) ∷ ws)) ≡ formed_line step s (form ((b ∷ w) ∷ ws))
step_spaced step s b w ws g e =
    let split = words_spaced ((b ∷ w) ∷ ws) g in
    let stays : skipped (spaced ((b ∷ w) ∷ ws)) ≡ false = or_from _ _ (ap no_word split) (first_byte 59 b w ws ∙ e) in
    ap (λ t. cond t (next s) (formed_line step s (form (words SpacesAndCommas (spaced ((b ∷ w) ∷ ws)))))) stays ∙ ap (λ l. formed_line step s (form l)) split

pub walk_on : {S A : Type 0} (step : S → Form → Step S) (finish : S → ℕ → Read A) (s t : S) (n : ℕ) (l : Bytes) (ls : List Bytes) → line_step step s l ≡ next t → walk step finish s n (l ∷ ls) ≡ walk step finish t (suc n) ls
walk_on step finish s t n l ls e = ap (λ x. go_on x n (λ t. walk step finish t (suc n) ls)) e
