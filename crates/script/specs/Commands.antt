-- The words of commands: what each command is given. Assumes nothing.
use Rattle.std.specs.Prelude.{ℕ, ◌%◌, cond, List, [], ◌∷◌, ◌++◌, Some, None, codes, Option, ◌==◌, bit_or, nat_lt}
use Rattle.std.specs.Option.{option_map}
use Rattle.vocabulary.specs.declared.marks.Marks.{Marks}
use Rattle.vocabulary.specs.declared.operation.Operation.{Operation}
use Rattle.vocabulary.specs.Names.{same_word, operation_named, operand_count, mark_named}
use Rattle.pile.specs.declared.Blueprint.{Blueprint}
use Rattle.pile.specs.declared.Layer.{Layer}
use Rattle.pile.specs.declared.Layer.TheVariants.{Trap, Poison}
use Rattle.scan.specs.Pieces.{Bytes, first, others, no_word}
use Rattle.scan.specs.Numbers.{decimal_of}
use Rattle.script.specs.declared.command.Computation.{Computation}

abbrev pub and_then : {A B : Type 0} → Option A → (A → Option B) → Option B
and_then (Some x) f = f x
and_then None f = None

-- a number up to a limit
abbrev pub at_most : ℕ → ℕ → Option ℕ
at_most limit n = cond (nat_lt limit n) None (Some n)

-- decimal digits, up to 65,535
abbrev pub number : Bytes → Option ℕ
number w = and_then (decimal_of w) (at_most 65535)

abbrev pub marks_of : ℕ → Marks
marks_of n = record { bits = n }

-- `trap M` or `poison M` with M up to 255, which counts by its remainder by 16
abbrev pub layer_named : Bytes → Bytes → Option Layer
layer_named name marks =
    and_then (and_then (number marks) (at_most 255))
    (λ n. cond (same_word name (codes "trap")) (Some (Trap (marks_of (n % 16))))
    (cond (same_word name (codes "poison")) (Some (Poison (marks_of (n % 16)))) None))

-- the layer that words begin with; there is none where they have ended
abbrev pub layer_at : List Bytes → Option (Option Layer)
layer_at [] = Some None
layer_at (name ∷ []) = None
layer_at (name ∷ marks ∷ ws) = option_map Some (layer_named name marks)

abbrev pub after_layer : List Bytes → List Bytes
after_layer ws = others (others ws)

-- `bench words W LAYER*`, at most three layers from the bottom up
abbrev pub with_layers : ℕ → List Bytes → Option Blueprint
with_layers width ws =
    and_then (layer_at ws)
    (λ bottom. and_then (layer_at (after_layer ws))
    (λ middle. and_then (layer_at (after_layer (after_layer ws)))
    (λ top. cond (no_word (after_layer (after_layer (after_layer ws)))) (Some (record { width = width; layers = bottom ∷ middle ∷ top ∷ [] })) None)))

abbrev pub bench_words : List Bytes → Option Blueprint
bench_words ws = and_then (first ws) (λ w. and_then (number w) (λ width. with_layers width (others ws)))

-- `bench house W`: the poison layer of all marks over words
abbrev pub bench_house : List Bytes → Option Blueprint
bench_house ws =
    and_then (first ws)
    (λ w. and_then (number w)
    (λ width. cond (no_word (others ws)) (Some (record { width = width; layers = Some (Poison (marks_of 15)) ∷ None ∷ None ∷ [] })) None))

abbrev pub bench_command : List Bytes → Option Blueprint
bench_command ws =
    and_then (first ws)
    (λ kind. cond (same_word kind (codes "words")) (bench_words (others ws))
    (cond (same_word kind (codes "house")) (bench_house (others ws)) None))

-- `A B` at the end of a `compute`
abbrev pub two_numbers : Operation → ℕ → Bytes → List Bytes → Option Computation
two_numbers op marks w ws =
    and_then (number w)
    (λ a. and_then (first ws)
    (λ v. and_then (number v)
    (λ b. cond (no_word (others ws)) (Some (record { operation = op; marks = marks_of marks; first = a; second = b })) None)))

abbrev pub by_mark : Option Marks → (ℕ → Option Computation) → Option Computation → Option Computation
by_mark (Some m) marked other = marked m.bits
by_mark None marked other = other

-- `MARK* A B`, where a mark given twice counts once
abbrev pub marked : Operation → ℕ → List Bytes → Option Computation
marked op marks [] = None
marked op marks (w ∷ ws) = by_mark (mark_named w) (λ m. marked op (bit_or marks m) ws) (two_numbers op marks w ws)

-- `compute OP MARK* A B` with an operation on two codes
abbrev pub compute_command : List Bytes → Option Computation
compute_command ws =
    and_then (first ws)
    (λ w. and_then (operation_named w)
    (λ op. cond (operand_count op == 2) (marked op 0 (others ws)) None))

-- numbers to the end, after first ones
abbrev pub numbers : List ℕ → List Bytes → Option (List ℕ)
numbers ns [] = Some ns
numbers ns (w ∷ ws) = and_then (number w) (λ n. numbers (ns ++ (n ∷ [])) ws)

-- what a program is evaluated with
pub record Given : Type 0 where
  pub inputs : List ℕ
  pub choices : List ℕ

abbrev pub with_choices : List ℕ → List Bytes → Option Given
with_choices ins ws = and_then (numbers [] ws) (λ cs. Some (record { inputs = ins; choices = cs }))

-- `INPUT* / CHOICE*`, after first inputs: a second `/` is no number
abbrev pub with_inputs : List ℕ → List Bytes → Option Given
with_inputs ins [] = None
with_inputs ins (w ∷ ws) = cond (same_word w (codes "/")) (with_choices ins ws) (and_then (number w) (λ n. with_inputs (ins ++ (n ∷ [])) ws))

-- numbers where no word ended them
abbrev pub unended : List ℕ → Option Bytes → Option (List ℕ)
unended ns None = Some ns
unended ns (Some w) = None

-- first inputs where a word ended them, if that is the `/` before choices
abbrev pub inputs_before : List ℕ → Option Bytes → List Bytes → Option Given
inputs_before ins None ws = None
inputs_before ins (Some w) ws = cond (same_word w (codes "/")) (with_choices ins ws) None

abbrev pub evaluate_command : List Bytes → Option Given
evaluate_command ws = with_inputs [] ws
