-- Texts in a script: the lines up to one that is `.` alone, each with its end. Assumes nothing.
use Rattle.std.specs.Prelude.{ℕ, suc, Bool, cond, List, [], ◌∷◌, ◌++◌, codes}
use Rattle.vocabulary.specs.Names.{same_word}
use Rattle.scan.specs.Pieces.{Bytes, first_line}

abbrev pub closes : Bytes → Bool
closes line = same_word (first_line line) (codes ".")

-- the line that closes a text is no part of it
abbrev pub text_of : List Bytes → Bytes
text_of [] = []
text_of (l ∷ ls) = cond (closes l) [] (l ++ text_of ls)

-- the lines behind a text
abbrev pub behind_text : List Bytes → List Bytes
behind_text [] = []
behind_text (l ∷ ls) = cond (closes l) ls (behind_text ls)

-- how many lines a text takes, with the one that closes it
abbrev pub lines_passed : List Bytes → ℕ
lines_passed [] = 0
lines_passed (l ∷ ls) = cond (closes l) 1 (suc (lines_passed ls))
