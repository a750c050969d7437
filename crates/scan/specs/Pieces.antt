-- The pieces of a text of bytes: its lines, and the words of a line. Assumes nothing.
use Rattle.std.specs.Prelude.{ℕ, Bool, true, false, ◌||◌, List, [], ◌∷◌, Some, None, Option, ◌==◌}
use Rattle.std.specs.List.{before_first, after_first}
use Rattle.scan.specs.declared.Separators.{Separators}
use Rattle.scan.specs.declared.Separators.TheVariants.{LineFeeds, Spaces, SpacesAndCommas}
use Rattle.scan.specs.declared.Pieces.{Pieces}
use Rattle.scan.specs.declared.Cursor.{Cursor}

abbrev pub Bytes : Type 0
Bytes = List ℕ

-- one byte before some pieces: it ends an empty piece, or it belongs to the first
abbrev pub byte_before : Bool → ℕ → List Bytes → List Bytes
byte_before true b ps = [] ∷ ps
byte_before false b [] = (b ∷ []) ∷ []
byte_before false b (p ∷ ps) = (b ∷ p) ∷ ps

-- the pieces of a list: each ends at a byte that the test takes, the last also at the list's end
abbrev pub pieces : (ℕ → Bool) → Bytes → List Bytes
pieces ends [] = []
pieces ends (b ∷ bs) = byte_before (ends b) b (pieces ends bs)

abbrev pub separates : Separators → ℕ → Bool
separates LineFeeds b = b == 10
separates Spaces b = b == 32
separates SpacesAndCommas b = b == 32 || b == 44

-- lines end at byte 10, the last also at the text's end; none follows a final byte 10, and an empty text has none
abbrev pub lines : Bytes → List Bytes
lines text = pieces (separates LineFeeds) text

-- one byte before some lines that keep their ends: it is a line alone where it ends one, or it belongs to the first
abbrev pub byte_before_whole : Bool → ℕ → List Bytes → List Bytes
byte_before_whole true b ls = (b ∷ []) ∷ ls
byte_before_whole false b [] = (b ∷ []) ∷ []
byte_before_whole false b (l ∷ ls) = (b ∷ l) ∷ ls

-- the lines of a text, each with the byte 10 that ends it, if one does
abbrev pub whole_lines : Bytes → List Bytes
whole_lines [] = []
whole_lines (b ∷ bs) = byte_before_whole (separates LineFeeds b) b (whole_lines bs)

abbrev pub non_empty : List Bytes → List Bytes
non_empty [] = []
non_empty ([] ∷ ps) = non_empty ps
non_empty ((b ∷ p) ∷ ps) = (b ∷ p) ∷ non_empty ps

-- words are the pieces between separators that are not empty
abbrev pub words : Separators → Bytes → List Bytes
words by line = non_empty (pieces (separates by) line)

abbrev pub first_line : Bytes → Bytes
first_line text = before_first (separates LineFeeds) text

abbrev pub after_line : Bytes → Bytes
after_line text = after_first (separates LineFeeds) text

-- the pieces that are still to come
abbrev pub pieces_left : Pieces → List Bytes
pieces_left p = pieces (separates p.separators) p.rest.now

-- the pieces that are still to come and are not empty
abbrev pub words_left : Pieces → List Bytes
words_left p = non_empty (pieces_left p)

-- the words that a cursor has still to give
abbrev pub left : Cursor → List Bytes
left c = words c.pieces.separators c.pieces.rest.now

abbrev pub first : List Bytes → Option Bytes
first [] = None
first (w ∷ ws) = Some w

abbrev pub others : List Bytes → List Bytes
others [] = []
others (w ∷ ws) = ws

-- whether the words have ended
abbrev pub no_word : List Bytes → Bool
no_word [] = true
no_word (w ∷ ws) = false
