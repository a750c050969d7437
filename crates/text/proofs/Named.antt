-- Decimal numbers, names and constants as they are written, and read back. Assumes nothing.
use Rattle.std.proofs.Common.{◌≡◌, ℕ, zero, suc, ◌+◌, ◌-◌, ◌*◌, ◌^◌, ◌<◌, ◌≤◌, true, false, cond, not, ◌&&◌, ◌||◌, eqb, ltb, leb, [], ◌∷◌, map, length, fold, Some, None, decimal, sym, refl, ap, ◌∙◌, ⊎_elim, arith, rules}
use Rattle.std.proofs.lemmas.Bool.{and_parts, and_from, or_right, or_from, leb-true, le-leb, lt-ltb, ne_eqb, eqb-true, not_from_false, false≢true}
use Rattle.std.proofs.lemmas.Str.Parse.{IsNumeralModel, numerals_by_fold}
use Rattle.std.proofs.lemmas.Fmt.{digits_decimal, digits_value-decimal, length-decimal-le, decimal_nonempty, decimal_injective}
use Rattle.semantics.specs.Cases.{from}
use Rattle.scan.specs.declared.Separators.TheVariants.{LineFeeds, SpacesAndCommas}
use Rattle.scan.specs.Pieces.{Bytes, separates}
use Rattle.std.specs.List.{list_all}
use Rattle.scan.specs.Numbers.{digit, worth, digits}
use Rattle.vocabulary.specs.Names.{same_word}
use Rattle.semantics.specs.Programs.{all}
use Rattle.text.specs.Words.{only_if, letter, plain, name}
use Rattle.text.specs.Instructions.{placed_at, place, among}
use Rattle.text.specs.Writing.{input_name, record_name, side_name}
use Rattle.text.proofs.Found.{same_itself}
use Rattle.semantics.proofs.Members.{holds, fails, same?}
use Rattle.text.proofs.Spaced.{solid, Good, all_by}

own : IsNumeralModel (λ ds. list_all digit ds ≡ true) worth
own = numerals_by_fold _ (search rules) (fold (λ v d. v * 10 + (d - 48))) (search rules)

each_digit : (w : Bytes) → list_all digit w ≡ all digit w
each_digit [] = refl
each_digit (b ∷ w) = ap (λ t. digit b && t) (each_digit w)

-- numbers that are written are below 10^5
module _ (n : ℕ) (small : n < 100000) where
  long : n < 2 ^ 64
  long = omega arith

  written_digits : list_all digit (decimal n) ≡ true
  written_digits = digits_decimal own n long

  pub reads_decimal : digits (decimal n) ≡ Some n
  reads_decimal =
      let some = decimal_nonempty n long in
      ap (λ b. cond b (Some (worth (decimal n))) None) (and_from (ltb 0 (length (decimal n))) (list_all digit (decimal n)) (lt-ltb 0 (length (decimal n)) (omega arith)) written_digits) ∙ ap Some (digits_value-decimal own n long)

  digit_solid : (b : ℕ) → digit b ≡ true → solid b ≡ true
  digit_solid b e =
      let low = leb-true 48 b (and_parts (leb 48 b) (leb b 57) e).0 in
      and_from (not (separates SpacesAndCommas b)) (not (separates LineFeeds b))
      (not_from_false (separates SpacesAndCommas b) (or_from (eqb b 32) (eqb b 44) (ne_eqb b 32 (λ e. omega arith)) (ne_eqb b 44 (λ e. omega arith))))
      (not_from_false (separates LineFeeds b) (ne_eqb b 10 (λ e. omega arith)))

  pub solid_decimal : all solid (decimal n) ≡ true
  solid_decimal = all_by digit solid digit_solid (decimal n) (sym (each_digit (decimal n)) ∙ written_digits)

  -- a letter and a number are a name
  pub plain_name : (b : ℕ) → letter b ≡ true → plain (b ∷ decimal n) ≡ true
  plain_name b e =
      let short = length-decimal-le 5 n (omega arith) (omega arith) long in
      and_from _ _ (and_from (leb 1 (suc (length (decimal n)))) (leb (suc (length (decimal n))) 15) (le-leb 1 (suc (length (decimal n))) (omega arith)) (le-leb (suc (length (decimal n))) 15 (omega arith))) (and_from (letter b || digit b) _ (rw e) (all_by digit (λ b. letter b || digit b) (λ b d. or_right (letter b) (digit b) d) (decimal n) (sym (each_digit (decimal n)) ∙ written_digits)))

  pub name_word : (b : ℕ) → letter b ≡ true → name (37 ∷ b ∷ decimal n) ≡ Some (b ∷ decimal n)
  name_word b e = ap (λ t. only_if t (b ∷ decimal n)) (plain_name b e)

pub same_true : (v w : Bytes) → same_word v w ≡ true → v ≡ w
same_true [] [] e = refl
same_true [] (y ∷ w) e = absurd (false≢true e)
same_true (x ∷ v) [] e = absurd (false≢true e)
same_true (x ∷ v) (y ∷ w) e = let (here, later) = and_parts (eqb x y) (same_word v w) e in λ i. eqb-true x y here i ∷ same_true v w later i

-- different numbers make different names
pub name_apart : (b j k : ℕ) → j < 100000 → k < 100000 → ◌≡◌ {A = Bytes} (b ∷ decimal j) (b ∷ decimal k) → j ≡ k
name_apart b j k small little e = let ds : decimal j ≡ decimal k = cc in decimal_injective j k (omega arith) (omega arith) ds

pub good_word : (a b n : ℕ) → n < 1000 → solid a ≡ true → solid b ≡ true → Good (a ∷ b ∷ decimal n)
good_word a b n small p q =
    let short = length-decimal-le 3 n (omega arith) (omega arith) (omega arith) in
    record { some = omega arith; short = omega arith; solid_bytes = rw (p, q) (solid_decimal n (omega arith)) }

pub good_code : (c : ℕ) → c < 100000 → Good (35 ∷ decimal c)
good_code c small =
    let short = length-decimal-le 5 c (omega arith) (omega arith) (omega arith) in
    record { some = omega arith; short = omega arith; solid_bytes = solid_decimal c small }

-- a list of names by numbers: which are in it, and where
module _ (f : ℕ → Bytes) where
  pub absent : (x : Bytes) (a n : ℕ) → ((k : ℕ) → a ≤ k → k < a + n → x ≡ f k → ⊥) → among x (map f (from a n)) ≡ false
  absent x a zero h = refl
  absent x a (suc n) h = or_from (same_word x (f a)) _ (fails (same_word x (f a)) (λ t. h a (omega arith) (omega arith) (same_true x (f a) (holds _ t)))) (absent x (suc a) n (λ k low high. h k (omega arith) (omega arith)))

  pub placed : (a n j : ℕ) → ((k : ℕ) → a ≤ k → k < a + n → f j ≡ f k → j ≡ k) → a ≤ j → j < a + n → place (f j) (map f (from a n)) ≡ Some (j - a)
  placed a zero j apart low high = absurd (omega arith)
  placed a (suc n) j apart low high = ⊎_elim here (λ ne. later ne (placed (suc a) n j (λ k low high. apart k (omega arith) (omega arith)) (omega arith) (omega arith))) (same? j a)
    where
      here : j ≡ a → placed_at (same_word (f j) (f a)) (place (f j) (map f (from (suc a) n))) ≡ Some (j - a)
      here e = ap (λ t. placed_at t (place (f j) (map f (from (suc a) n)))) (ap (λ x. same_word (f j) (f x)) (sym e) ∙ same_itself (f j)) ∙ ap Some (omega arith)

      later : (j ≡ a → ⊥) → place (f j) (map f (from (suc a) n)) ≡ Some (j - suc a) → placed_at (same_word (f j) (f a)) (place (f j) (map f (from (suc a) n))) ≡ Some (j - a)
      later ne rest =
          ap (λ t. placed_at t (place (f j) (map f (from (suc a) n)))) (fails (same_word (f j) (f a)) (λ t. ne (apart a (omega arith) (omega arith) (same_true (f j) (f a) (holds _ t)))))
          ∙ ap (placed_at false) rest ∙ ap Some (omega arith)

-- names of instructions up to a number: they are read, are apart from each other, and none is an input's name
pub record Naming (f : ℕ → Bytes) (total : ℕ) : Type 0 where
  pub reads : (r : ℕ) → r ≤ total → name (37 ∷ f r) ≡ Some (f r)
  pub good : (r : ℕ) → r ≤ total → Good (37 ∷ f r)
  pub apart : (j k : ℕ) → j ≤ total → k ≤ total → f j ≡ f k → j ≡ k
  pub other : (v j : ℕ) → input_name v ≡ f j → ⊥

pub record_naming : Naming record_name 64
record_naming = record {
  reads = λ r h. name_word r (omega arith) 114 refl;
  good = λ r h. good_word 37 114 r (omega arith) refl refl;
  apart = λ j k a b e. name_apart 114 j k (omega arith) (omega arith) e;
  other = λ v j e. let z : ◌≡◌ {A = ℕ} 105 114 = cc in omega arith;
}

pub side_naming : (n : ℕ) → n ≤ 8 → Naming (side_name n) n
side_naming n few = record {
  reads = λ r h. name_word (n - r) (omega arith) 114 refl;
  good = λ r h. good_word 37 114 (n - r) (omega arith) refl refl;
  apart = λ j k a b e. let z = name_apart 114 (n - j) (n - k) (omega arith) (omega arith) e in omega arith;
  other = λ v j e. let z : ◌≡◌ {A = ℕ} 105 114 = cc in omega arith;
}
