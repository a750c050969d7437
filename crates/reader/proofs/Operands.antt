-- Operands read one after another, against the arguments of a line.
use Rattle.std.proofs.Common.{◌≡◌, ℕ, ◌≤◌, Bool, true, false, eqb, List, [], ◌∷◌, ◌++◌, map, length, take, slice_index_or, Some, None, Option, sym, refl, ap, ◌∙◌, append_assoc, append-nil, arith, length-append}
use Rattle.std.proofs.lemmas.Bool.Decides.{nat_tests}
use Rattle.std.proofs.lemmas.List.{length-map}
use Rattle.std.specs.Option.{option_map}
use Rattle.vocabulary.specs.declared.operation.Operation.{Operation}
use Rattle.vocabulary.specs.Names.{operand_count}
use Rattle.scan.specs.Pieces.{Bytes}
use Rattle.text.specs.Words.{Argument, only_if, and_then, each, argument}
use Rattle.text.specs.Forms.{Written, instruction_line, leading_marks, behind_marks, arguments, written}
use Rattle.text.proofs.Tests.{no_some}
use Rattle.reader.specs.Tokens.{Seen, told}

-- the operands so far, before those that the words are, where all are as many as the count
abbrev so_many : ℕ → List Seen → Option (List Argument) → Option (List Seen)
so_many n ts (Some args) = only_if (eqb (length (ts ++ map told args)) n) (ts ++ map told args)
so_many n ts None = None

abbrev pub operands_after : ℕ → List Seen → List Bytes → Option (List Seen)
operands_after n ts ws = so_many n ts (each argument ws)

-- no operand was read yet
pub operands_first : (op : Operation) (ws : List Bytes) → operands_after (operand_count op) [] ws ≡ option_map (map told) (arguments op ws)
operands_first op ws = go (each argument ws)
  where
    chosen : (b : Bool) (args : List Argument) → only_if b (map told args) ≡ option_map (map told) (only_if b args)
    chosen true args = refl
    chosen false args = refl

    go : (o : Option (List Argument)) → so_many (operand_count op) [] o ≡ option_map (map told) (and_then o (λ args. only_if (eqb (length args) (operand_count op)) args))
    go (Some args) = ap (λ k. only_if (eqb k (operand_count op)) (map told args)) (length-map args told) ∙ chosen (eqb (length args) (operand_count op)) args
    go None = refl

-- all operands were read
pub operands_last : (n : ℕ) (ts : List Seen) → operands_after n ts [] ≡ only_if (eqb (length ts) n) ts
operands_last n ts = ap (λ l. only_if (eqb (length l) n) l) (append-nil ts)

module _ (n : ℕ) (ts : List Seen) (w : Bytes) (ws : List Bytes) where
  none_by : (a : Option Argument) → None ≡ option_map told a → so_many n ts (and_then a (λ x. and_then (each argument ws) (λ xs. Some (x ∷ xs)))) ≡ None
  none_by (Some a) e = absurd (no_some (sym e))
  none_by None e = refl

  -- a word that is no operand
  pub operands_none : None ≡ option_map told (argument w) → operands_after n ts (w ∷ ws) ≡ None
  operands_none e = none_by (argument w) e

  next_by : (t : Seen) (a : Option Argument) (o : Option (List Argument)) → Some t ≡ option_map told a → so_many n ts (and_then a (λ x. and_then o (λ xs. Some (x ∷ xs)))) ≡ so_many n (ts ++ t ∷ []) o
  next_by t None o e = absurd (no_some e)
  next_by t (Some a) None e = refl
  next_by t (Some a) (Some xs) e =
      let same : t ≡ told a = cc in
      ap (λ u. only_if (eqb (length (ts ++ u ∷ map told xs)) n) (ts ++ u ∷ map told xs)) (sym same)
      ∙ ap (λ l. only_if (eqb (length l) n) l) (sym (append_assoc ts (t ∷ []) (map told xs)))

  -- one operand more
  pub operands_next : (t : Seen) → Some t ≡ option_map told (argument w) → operands_after n ts (w ∷ ws) ≡ operands_after n (ts ++ t ∷ []) ws
  operands_next t e = next_by t (argument w) (each argument ws) e

  full_by : n ≤ length ts → (a : Option Argument) (o : Option (List Argument)) → so_many n ts (and_then a (λ x. and_then o (λ xs. Some (x ∷ xs)))) ≡ None
  full_by h None o = refl
  full_by h (Some a) None = refl
  full_by h (Some a) (Some xs) =
      let many = length-append ts (told a ∷ map told xs) in
      let e : eqb (length (ts ++ told a ∷ map told xs)) n ≡ false = grind (arith, nat_tests) in
      ap (λ b. only_if b (ts ++ told a ∷ map told xs)) e

  -- one operand too many
  pub operands_full : n ≤ length ts → operands_after n ts (w ∷ ws) ≡ None
  operands_full h = full_by h (argument w) (each argument ws)

mapped_none : {A B : Type 0} (f : A → B) (o : Option A) → None ≡ option_map f o → o ≡ None
mapped_none f (Some x) e = absurd (no_some (sym e))
mapped_none f None e = refl

mapped_some : {A B : Type 0} (f : A → B) (o : Option A) (y : B) → Some y ≡ option_map f o → (x : A) × (o ≡ Some x) × (y ≡ f x)
mapped_some f (Some x) y e = (x, refl, cc)
mapped_some f None y e = absurd (no_some e)

-- up to three operands by their places
pub placed : {A : Type 0} (d : A) (xs : List A) (n : ℕ) → length xs ≡ n → length xs ≤ 3 → take n (slice_index_or xs 0 d ∷ slice_index_or xs 1 d ∷ slice_index_or xs 2 d ∷ []) ≡ xs
placed {A} d xs n e few = ap (λ k. take k (slice_index_or xs 0 d ∷ slice_index_or xs 1 d ∷ slice_index_or xs 2 d ∷ [])) (sym e) ∙ go xs few
  where
    go : (xs : List A) → length xs ≤ 3 → take (length xs) (slice_index_or xs 0 d ∷ slice_index_or xs 1 d ∷ slice_index_or xs 2 d ∷ []) ≡ xs
    go [] h = refl
    go (x ∷ []) h = refl
    go (x ∷ y ∷ []) h = refl
    go (x ∷ y ∷ z ∷ []) h = refl
    go (x ∷ y ∷ z ∷ t ∷ ts) h = absurd (omega arith)

abbrev pub spelt : Bytes → Operation → List Bytes → List Argument → Written
spelt name op ws args = record { name = name; operation = op; marks = leading_marks ws; arguments = args }

-- an instruction line from its operands, which stand in `rest`, behind the marks
module _ (name : Bytes) (op : Operation) (ws rest : List Bytes) (behind : rest ≡ behind_marks ws) where
  pub written_none : None ≡ option_map (map told) (arguments op rest) → written name op ws ≡ None
  written_none e = ap (λ o. and_then o (λ args. Some (instruction_line (spelt name op ws args)))) (ap (arguments op) (sym behind) ∙ mapped_none (map told) (arguments op rest) e)

  pub written_some : (ts : List Seen) → Some ts ≡ option_map (map told) (arguments op rest) → (args : List Argument) × (written name op ws ≡ Some (instruction_line (spelt name op ws args))) × (ts ≡ map told args)
  written_some ts e =
      let (args, is, same) = mapped_some (map told) (arguments op rest) ts e in
      (args, ap (λ o. and_then o (λ args. Some (instruction_line (spelt name op ws args)))) (ap (arguments op) (sym behind) ∙ is), same)
