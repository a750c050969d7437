-- The forms that a line may have, by its words. Assumes nothing.
use Rattle.std.specs.Prelude.{ℕ, cond, List, [], ◌∷◌, length, Some, None, codes, Option, ◌==◌}
use Rattle.vocabulary.specs.declared.operation.Operation.{Operation}
use Rattle.scan.specs.Pieces.{Bytes}
use Rattle.vocabulary.specs.declared.marks.Marks.{Marks}
use Rattle.vocabulary.specs.Names.{same_word, operation_named, operand_count, mark_named}
use Rattle.text.specs.Words.{Argument, only_if, and_then, each, plain, name, argument}

-- an instruction as it is written
pub record Written : Type 0 where
  pub name : Bytes
  pub operation : Operation
  pub marks : List ℕ
  pub arguments : List Argument

-- `rule NAME`, `=>`, `end`, `in` with names, `ret NAME`, `%r = OP marks operands`
pub data Form : Type 0 where
  rule_line : Form
  arrow_line : Form
  end_line : Form
  in_line : List Bytes → Form
  ret_line : Bytes → Form
  instruction_line : Written → Form

-- which form a line's first word opens
pub data Opening : Type 0 where
  opens_rule opens_arrow opens_end opens_in opens_ret opens_instruction : Opening

abbrev pub opening : Bytes → Opening
opening w =
    cond (same_word w (codes "rule")) opens_rule
    (cond (same_word w (codes "=>")) opens_arrow
    (cond (same_word w (codes "end")) opens_end
    (cond (same_word w (codes "in")) opens_in
    (cond (same_word w (codes "ret")) opens_ret opens_instruction))))

-- the only word of a list
abbrev pub lone : List Bytes → Option Bytes
lone [] = None
lone (w ∷ []) = Some w
lone (w ∷ v ∷ ws) = None

-- no further word
abbrev pub alone : Form → List Bytes → Option Form
alone f [] = Some f
alone f (w ∷ ws) = None

-- the number of a mark
abbrev pub mark_number : Option Marks → Option ℕ
mark_number (Some x) = Some x.bits
mark_number None = None

abbrev pub mark : Bytes → Option ℕ
mark w = mark_number (mark_named w)

abbrev pub mark_before : Option ℕ → List ℕ → List ℕ
mark_before (Some x) xs = x ∷ xs
mark_before None xs = []

-- the marks that stand directly after the operation
abbrev pub leading_marks : List Bytes → List ℕ
leading_marks [] = []
leading_marks (w ∷ ws) = mark_before (mark w) (leading_marks ws)

abbrev pub not_a_mark : Option ℕ → List Bytes → List Bytes → List Bytes
not_a_mark (Some x) ws rest = rest
not_a_mark None ws rest = ws

-- the words behind them
abbrev pub behind_marks : List Bytes → List Bytes
behind_marks [] = []
behind_marks (w ∷ ws) = not_a_mark (mark w) (w ∷ ws) (behind_marks ws)

-- as many operands as the operation takes
abbrev pub arguments : Operation → List Bytes → Option (List Argument)
arguments op ws = and_then (each argument ws) (λ args. only_if (length args == operand_count op) args)

abbrev pub written : Bytes → Operation → List Bytes → Option Form
written n op ws =
    and_then (arguments op (behind_marks ws)) (λ args. Some (instruction_line (record { name = n; operation = op; marks = leading_marks ws; arguments = args })))

abbrev pub form_of : Opening → Bytes → List Bytes → Option Form
form_of opens_rule w ws = and_then (lone ws) (λ n. only_if (plain n) rule_line)
form_of opens_arrow w ws = alone arrow_line ws
form_of opens_end w ws = alone end_line ws
form_of opens_in w ws = and_then (each name ws) (λ ns. Some (in_line ns))
form_of opens_ret w ws = and_then (lone ws) (λ v. and_then (name v) (λ n. Some (ret_line n)))
form_of opens_instruction w [] = None
form_of opens_instruction w (e ∷ []) = None
form_of opens_instruction w (e ∷ o ∷ ws) = and_then (only_if (same_word e (codes "=")) w) (λ v. and_then (name v) (λ n. and_then (operation_named o) (λ op. written n op ws)))

-- the form of a line with these words, or none
abbrev pub form : List Bytes → Option Form
form [] = None
form (w ∷ ws) = form_of (opening w) w ws
