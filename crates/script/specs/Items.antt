-- A script as a list of items: a line with what it orders, and the text that follows it. Assumes nothing.
use Rattle.std.specs.Prelude.{ℕ, ◌+◌, Bool, true, false, cond, List, [], ◌∷◌, ◌++◌, Some, None, Option}
use Rattle.scan.specs.Pieces.{Bytes, first_line, whole_lines}
use Rattle.script.specs.Lines.{Order, bench, compute, evaluate, load, show, Ordered, skipped, unreadable, obeyed, line_read}
use Rattle.script.specs.TextLines.{closes}

pub record Item : Type 0 where
  pub line : ℕ
  pub order : Ordered
  pub text : Bytes

-- a text follows
abbrev pub order_has_text : Order → Bool
order_has_text (bench b) = false
order_has_text (compute c) = false
order_has_text (evaluate g) = false
order_has_text load = true
order_has_text show = false

abbrev pub has_text : Ordered → Bool
has_text skipped = false
has_text unreadable = false
has_text (obeyed o) = order_has_text o

abbrev pub item_of : ℕ → Bytes → Item
item_of n line = record { line = n; order = line_read (first_line line); text = [] }

abbrev pub with_more : Item → Bytes → Item
with_more i more = record { line = i.line; order = i.order; text = i.text ++ more }

-- the items of lines from number n on, behind an item whose text is not closed, if there is one
abbrev pub items_from : Option Item → ℕ → List Bytes → List Item
items_from None n [] = []
items_from (Some i) n [] = i ∷ []
items_from None n (l ∷ ls) = cond (has_text (item_of n l).order) (items_from (Some (item_of n l)) (n + 1) ls) (item_of n l ∷ items_from None (n + 1) ls)
items_from (Some i) n (l ∷ ls) = cond (closes l) (i ∷ items_from None (n + 1) ls) (items_from (Some (with_more i l)) (n + 1) ls)

-- lines count from 1
abbrev pub items : Bytes → List Item
items script = items_from None 1 (whole_lines script)
