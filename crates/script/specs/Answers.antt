-- What is printed for an answer, without its line feed. Assumes nothing.
use Rattle.std.specs.Prelude.{ℕ, cond, List, [], ◌∷◌, ◌++◌, codes, decimal, bit_and, nat_lt, Ok}
use Rattle.vocabulary.specs.declared.marks.Marks.{Marks}
use Rattle.scan.specs.Pieces.{Bytes}
use Rattle.text.specs.Faults.{Fault}
use Rattle.bench.specs.Faults.{layer_text}
use Rattle.calls.specs.Bench.{Answer}
use Rattle.domain.specs.Model.{Outcome, trap}

-- the name of a mark that a set has
abbrev pub mark_text : Marks → Marks → Bytes → Bytes
mark_text marks mark name = cond (nat_lt 0 (bit_and marks.bits mark.bits)) (codes " " ++ name) []

-- the names of the marks that can be written, of those that a set has, from the smallest number up
abbrev pub written_marks_text : Marks → Bytes
written_marks_text marks =
    mark_text marks (record { bits = 1 }) (codes "nuw")
    ++ (mark_text marks (record { bits = 2 }) (codes "nsw")
    ++ mark_text marks (record { bits = 4 }) (codes "exact"))

-- the names of all marks that a set has, from the smallest number up
abbrev pub marks_text : Marks → Bytes
marks_text marks = written_marks_text marks ++ mark_text marks (record { bits = 8 }) (codes "range")

-- numbers, each behind a space
abbrev pub numbers_text : List ℕ → Bytes
numbers_text [] = []
numbers_text (n ∷ ns) = (codes " " ++ decimal n) ++ numbers_text ns

abbrev pub outcome_text : Outcome → Bytes
outcome_text (Ok c) = codes "code " ++ decimal c
outcome_text trap = codes "trap"

abbrev pub fault_text : Fault → Bytes
fault_text f = codes "fault " ++ (decimal f.number ++ (codes " " ++ (layer_text f.layer ++ (codes " " ++ decimal f.line))))

-- the answer of a call; a refuting case gives its variables and then its choices
abbrev pub call_text : Answer → Bytes
call_text (Answer.drafted s) = codes "draft " ++ decimal s
call_text (Answer.entered s) = codes "rule " ++ decimal s
call_text Answer.withdrawn = codes "withdrawn"
call_text Answer.struck = codes "struck"
call_text Answer.loaded = codes "loaded"
call_text Answer.applied = codes "applied"
call_text (Answer.passed k) = codes "passed " ++ decimal k
call_text (Answer.evaluated o) = outcome_text o
call_text (Answer.refused f) = fault_text f
call_text (Answer.refuted f c) = fault_text f ++ (codes " case" ++ numbers_text (c.vars ++ c.choices))

abbrev pub computed_text : Outcome → Marks → Bytes
computed_text o broken = outcome_text o ++ (codes " breaks" ++ marks_text broken)
