-- Sets of marks against lists of marks. Assumes nothing.
use Rattle.std.specs.Prelude.{◌≡◌, ℕ, Bool, true, cond, List, [], ◌∷◌, Some, None, Option, bit_and, nat_lt}
use Rattle.vocabulary.specs.declared.marks.Marks.{Marks}
use Rattle.vocabulary.specs.declared.operation.Operation.{Operation}
use Rattle.vocabulary.specs.Names.{mark_named}
use Rattle.semantics.specs.Programs.{has}
use Rattle.scan.specs.Pieces.{Bytes, first}
use Rattle.text.specs.Words.{and_then}
use Rattle.text.specs.Forms.{mark, not_a_mark}
use Rattle.text.specs.Instructions.{bad_marks, sum}

-- the number of a mark
abbrev pub is_mark : ℕ → Bool
is_mark x = has x (1 ∷ 2 ∷ 4 ∷ 8 ∷ [])

-- whether a set has a mark
abbrev pub bears : ℕ → ℕ → Bool
bears set x = nat_lt 0 (bit_and set x)

-- a set has the marks of a list, and no others
abbrev pub Members : ℕ → List ℕ → Type 0
Members set xs = (x : ℕ) → is_mark x ≡ true → bears set x ≡ has x xs

-- the set of marks that are written on an operation, or none where they may not be
abbrev pub marks_of : Operation → List ℕ → Option Marks
marks_of op xs = cond (bad_marks op xs) None (Some (record { bits = sum xs }))

-- the mark that words begin with, and the words behind it; a word that is no mark stays
abbrev pub next_mark : List Bytes → Option Marks
next_mark ws = and_then (first ws) mark_named

abbrev pub after_mark : List Bytes → List Bytes
after_mark [] = []
after_mark (w ∷ ws) = not_a_mark (mark w) (w ∷ ws) ws
