-- Instructions under their names, and the lines that are written of them. Assumes nothing.
use Rattle.std.proofs.Common.{◌≡◌, ℕ, zero, suc, ◌+◌, ◌*◌, ◌<◌, ◌≤◌, false, List, [], ◌∷◌, ◌++◌, map, length, Some, sym, refl, ap, ◌∙◌, ⊎_elim, arith}
use Rattle.std.proofs.lemmas.Bool.{or_from}
use Rattle.semantics.specs.declared.Operand.{Operand}
use Rattle.semantics.specs.declared.Operand.TheVariants.{Input, Record, Constant}
use Rattle.semantics.specs.declared.Instruction.{Instruction}
use Rattle.domain.specs.Model.{Model, Lawful}
use Rattle.semantics.specs.Programs.{Placed, All, reads, records, Readable, Ordered}
use Rattle.semantics.specs.Rules.{numbered}
use Rattle.semantics.proofs.Members.{In, in_cases, all_weaker}
use Rattle.semantics.specs.Cases.{from}
use Rattle.scan.specs.Pieces.{Bytes}
use Rattle.text.specs.Words.{and_then, each, name}
use Rattle.text.specs.Instructions.{Named, names_of, bodies}
use Rattle.text.specs.ProgramTexts.{twice}
use Rattle.text.specs.Neat.{Neat}
use Rattle.text.specs.Writing.{input_name, lines_of}
use Rattle.text.proofs.Fine.{Okay, Fine}
use Rattle.text.proofs.Spaced.{Good, Filled, word_count}
use Rattle.text.proofs.Named.{name_word, name_apart, good_word, absent, Naming}
use Rattle.text.proofs.WrittenForm.{good_line, few_words}
use Rattle.text.proofs.WrittenLine.{small_operands}

-- instructions under their names
abbrev pub label : (ℕ → Bytes) → ℕ → List Instruction → List Named
label f k [] = []
label f k (i ∷ is) = record { name = f k; what = i } ∷ label f (suc k) is

pub label_push : (f : ℕ → Bytes) (k : ℕ) (is : List Instruction) (i : Instruction) → label f k (is ++ i ∷ []) ≡ label f k is ++ record { name = f (k + length is); what = i } ∷ []
label_push f k [] i = ap (λ j. record { name = f j; what = i } ∷ []) (let e : k ≡ k + 0 = omega arith in e)
label_push f k (x ∷ is) i =
    ap (λ l. record { name = f k; what = x } ∷ l) (label_push f (suc k) is i ∙ ap (λ j. label f (suc k) is ++ record { name = f j; what = i } ∷ []) (let e : suc k + length is ≡ k + suc (length is) = omega arith in e))

pub names_label : (f : ℕ → Bytes) (k : ℕ) (is : List Instruction) → names_of (label f k is) ≡ map f (from k (length is))
names_label f k [] = refl
names_label f k (i ∷ is) = ap (λ l. f k ∷ l) (names_label f (suc k) is)

pub bodies_label : (f : ℕ → Bytes) (k : ℕ) (is : List Instruction) → bodies (label f k is) ≡ is
bodies_label f k [] = refl
bodies_label f k (i ∷ is) = ap (λ l. i ∷ l) (bodies_label f (suc k) is)

pub length_label : (f : ℕ → Bytes) (k : ℕ) (is : List Instruction) → length (label f k is) ≡ length is
length_label f k [] = refl
length_label f k (i ∷ is) = ap suc (length_label f (suc k) is)

-- a program whose records rise from 1 is its instructions, numbered
pub numbered_back : (k : ℕ) (xs : List Placed) → records xs ≡ from k (length xs) → numbered k (map (λ x. x.what) xs) ≡ xs
numbered_back k [] e = refl
numbered_back k (x ∷ xs) e =
    let here : x.at ≡ k = cc in
    let later : records xs ≡ from (suc k) (length xs) = cc in
    λ j. record { at = sym here j; what = x.what } ∷ numbered_back (suc k) xs later j

okay_in : (m : Model) (n k : ℕ) (e : List ℕ) → ((r : ℕ) → In r e → (1 ≤ r) × (r < k)) → (o : Operand) → Readable m n e o → Okay m n k o
okay_in m n k e only (Input v) h = h
okay_in m n k e only (Record r) h = only r h
okay_in m n k e only (Constant c) h = h

pub fine_back : (m : Model) (n k : ℕ) (e : List ℕ) (is : List Instruction) → ((r : ℕ) → In r e → (1 ≤ r) × (r < k)) → 1 ≤ k → Ordered m n e (numbered k is) → Fine m n k is
fine_back m n k e [] only low o = tt
fine_back m n k e (i ∷ is) only low o = (all_weaker (Readable m n e) (Okay m n k) (okay_in m n k e only) (reads i) o.3, fine_back m n (suc k) (k ∷ e) is more (omega arith) o.4)
  where
    more : (r : ℕ) → In r (k ∷ e) → (1 ≤ r) × (r < suc k)
    more r h = ⊎_elim (λ same. (omega arith, omega arith)) (λ old. let (a, b) = only r old in (a, omega arith)) (in_cases r k e h)

pub all_input_names : (a n : ℕ) → a + n ≤ 8 → each name (map (λ k. 37 ∷ input_name k) (from a n)) ≡ Some (map input_name (from a n))
all_input_names a zero h = refl
all_input_names a (suc n) h =
    ap (λ x. and_then x (λ x. and_then (each name (map (λ k. 37 ∷ input_name k) (from (suc a) n))) (λ xs. Some (x ∷ xs)))) (name_word (suc a) (omega arith) 105 refl)
    ∙ ap (λ x. and_then x (λ xs. Some (input_name a ∷ xs))) (all_input_names (suc a) n (omega arith))

pub once : (a n : ℕ) → a + n ≤ 8 → twice (map input_name (from a n)) ≡ false
once a zero h = refl
once a (suc n) h = or_from _ _ (absent input_name (input_name a) (suc a) n (λ j low high e. let z = name_apart 105 (suc a) (suc j) (omega arith) (omega arith) e in omega arith)) (once (suc a) n (omega arith))

pub good_inputs : (a n : ℕ) → a + n ≤ 8 → All Good (map (λ k. 37 ∷ input_name k) (from a n))
good_inputs a zero h = tt
good_inputs a (suc n) h = (good_word 37 105 (suc a) (omega arith) refl refl, good_inputs (suc a) n (omega arith))

pub all_mapped : (xs : List Placed) → All (λ x. Neat x.what) xs → All Neat (map (λ x. x.what) xs)
all_mapped [] a = tt
all_mapped (x ∷ xs) a = (a.0, all_mapped xs a.1)

-- f names the instructions
module _ (f : ℕ → Bytes) (total : ℕ) (naming : Naming f total) (m : Model) (law : Lawful m) (n : ℕ) (few : n ≤ 8) where
  pub good_lines : (k : ℕ) (is : List Instruction) (rest : List (List Bytes)) → Fine m n (suc k) is → k + length is ≤ total → All Filled rest → All Filled (lines_of f (numbered (suc k) is) ++ rest)
  good_lines k [] rest fine room g = g
  good_lines k (i ∷ is) rest fine room g =
      ((omega arith, good_line f total naming (suc k) i (omega arith) (small_operands f total naming m law n k few (omega arith) (reads i) fine.0)), good_lines (suc k) is rest fine.1 (omega arith) g)

  pub count_lines : (k : ℕ) (is : List Instruction) (rest : List (List Bytes)) → Fine m n (suc k) is → k + length is ≤ total → word_count (lines_of f (numbered (suc k) is) ++ rest) ≤ 8 * length is + word_count rest
  count_lines k [] rest fine room = omega arith
  count_lines k (i ∷ is) rest fine room =
      let a = few_words f total naming (suc k) i (omega arith) (small_operands f total naming m law n k few (omega arith) (reads i) fine.0) in
      let b = count_lines (suc k) is rest fine.1 (omega arith) in
      omega arith
