-- What the text of a rule means. Assumes nothing.
use Rattle.std.specs.Prelude.{ℕ, Bool, not, ◌||◌, List, [], ◌∷◌, length, Some, None, Option, nat_le, nat_lt}
use Rattle.domain.specs.Model.{Model}
use Rattle.semantics.specs.Programs.{Placed}
use Rattle.semantics.specs.Rules.{Rule, source_of, read_in, front}
use Rattle.semantics.specs.Cases.{case_number}
use Rattle.scan.specs.Pieces.{Bytes}
use Rattle.vocabulary.specs.Names.{same_word}
use Rattle.text.specs.Words.{any}
use Rattle.text.specs.Forms.{Form, Written, rule_line, arrow_line, end_line, in_line, ret_line, instruction_line}
use Rattle.text.specs.Faults.{Read, accepted, refused, Step, next, wrong, fault, first_of, unless, read}
use Rattle.text.specs.Instructions.{Named, Names, names_of, bodies, learnt, instruction_fault, entered}

-- where in the text a line stands
pub data Section : Type 0 where
  at_start in_source in_target at_end : Section

-- what the lines so far say
pub record Reading : Type 0 where
  pub section : Section
  pub variables : List Bytes
  pub source : List Named
  pub target : List Named

abbrev pub in_section : Section → Reading → Reading
in_section x s = record { section = x; variables = s.variables; source = s.source; target = s.target }

-- closing an empty part is fault 2
abbrev pub closing : {S : Type 0} → List Named → S → Step S
closing [] s = wrong 2
closing (x ∷ xs) s = next s

-- a source line: what it reads and does not know are variables
abbrev pub source_names : Reading → Written → Names
source_names s w = record { variables = learnt (names_of s.source) s.variables w.arguments; instructions = names_of s.source }

-- fault 4: the ninth source instruction or the fifth variable
abbrev pub source_too_many : Reading → Written → Bool
source_too_many s w = nat_le 8 (length s.source) || nat_lt 4 (length (source_names s w).variables)

abbrev pub source_line : Model → Reading → Written → Step Reading
source_line m s w =
    unless (instruction_fault m (source_too_many s w) (source_names s w) w) (record {
      section = in_source;
      variables = (source_names s w).variables;
      source = entered m (source_names s w) w s.source;
      target = s.target;
    })

-- a target line reads variables, constants and earlier target names only
abbrev pub target_names : Reading → Names
target_names s = record { variables = s.variables; instructions = names_of s.target }

-- fault 4: the ninth target instruction
abbrev pub target_too_many : Reading → Bool
target_too_many s = nat_le 8 (length s.target)

abbrev pub target_line : Model → Reading → Written → Step Reading
target_line m s w =
    unless (instruction_fault m (target_too_many s) (target_names s) w) (record {
      section = in_target;
      variables = s.variables;
      source = s.source;
      target = entered m (target_names s) w s.target;
    })

-- one line in its section; every other form is out of order there
abbrev pub in_order : Model → Section → Reading → Form → Step Reading
in_order m at_start s rule_line = next (in_section in_source s)
in_order m at_start s arrow_line = wrong 2
in_order m at_start s end_line = wrong 2
in_order m at_start s (in_line ns) = wrong 2
in_order m at_start s (ret_line n) = wrong 2
in_order m at_start s (instruction_line w) = wrong 2
in_order m in_source s rule_line = wrong 2
in_order m in_source s arrow_line = closing s.source (in_section in_target s)
in_order m in_source s end_line = wrong 2
in_order m in_source s (in_line ns) = wrong 2
in_order m in_source s (ret_line n) = wrong 2
in_order m in_source s (instruction_line w) = source_line m s w
in_order m in_target s rule_line = wrong 2
in_order m in_target s arrow_line = wrong 2
in_order m in_target s end_line = closing s.target (in_section at_end s)
in_order m in_target s (in_line ns) = wrong 2
in_order m in_target s (ret_line n) = wrong 2
in_order m in_target s (instruction_line w) = target_line m s w
in_order m at_end s rule_line = wrong 2
in_order m at_end s arrow_line = wrong 2
in_order m at_end s end_line = wrong 2
in_order m at_end s (in_line ns) = wrong 2
in_order m at_end s (ret_line n) = wrong 2
in_order m at_end s (instruction_line w) = wrong 2

abbrev pub rule_step : Model → Reading → Form → Step Reading
rule_step m s f = in_order m s.section s f

-- the rule that the lines give
abbrev pub rule_of : Reading → Rule
rule_of s = record { variables = length s.variables; source = bodies s.source; target = bodies s.target }

-- a source instruction but the last unread in the source
abbrev pub some_unread : List Placed → Bool
some_unread xs = any (λ x. not (read_in x.at xs)) (front xs)

abbrev pub last_name : List Named → Bytes
last_name [] = []
last_name (x ∷ []) = x.name
last_name (x ∷ y ∷ xs) = last_name (y ∷ xs)

-- fault 8: source instruction but the last unread in the source, or last names unequal
abbrev pub ends_wrong : Reading → Bool
ends_wrong s = some_unread (source_of (rule_of s)).body || not (same_word (last_name s.source) (last_name s.target))

-- fault 9: case number over 100,000,000
abbrev pub too_many_cases : Model → Rule → Bool
too_many_cases m r = nat_lt 100000000 (case_number m r)

-- what is tested after the lines
abbrev pub rule_fault : Model → Reading → Option ℕ
rule_fault m s = first_of (ends_wrong s) 8 (first_of (too_many_cases m (rule_of s)) 9 None)

abbrev pub whole : {A : Type 0} → Option ℕ → A → Read A
whole (Some n) r = refused (fault n 0)
whole None r = accepted r

-- a text that ends before `end` is fault 2 at the line after the last
abbrev pub ended : Model → Section → Reading → ℕ → Read Rule
ended m at_start s n = refused (fault 2 n)
ended m in_source s n = refused (fault 2 n)
ended m in_target s n = refused (fault 2 n)
ended m at_end s n = whole (rule_fault m s) (rule_of s)

abbrev pub rule_end : Model → Reading → ℕ → Read Rule
rule_end m s n = ended m s.section s n

abbrev pub nothing_read : Reading
nothing_read = record { section = at_start; variables = []; source = []; target = [] }

abbrev pub read_rule : Model → Bytes → Read Rule
read_rule m text = read (rule_step m) (rule_end m) nothing_read text
