-- What the lines of a script order. Assumes nothing.
use Rattle.std.specs.Prelude.{cond, ◌&&◌, List, [], ◌∷◌, Some, None, vec_items, codes, Option, ◌==◌, slice_index}
use Rattle.std.specs.Option.{option_map}
use Rattle.vocabulary.specs.Names.{same_word}
use Rattle.pile.specs.declared.Blueprint.{Blueprint}
use Rattle.scan.specs.declared.Separators.TheVariants.{Spaces}
use Rattle.scan.specs.Pieces.{Bytes, words, no_word}
use Rattle.script.specs.declared.command.Arguments.{Arguments}
use Rattle.script.specs.declared.command.Command.{Command}
use Rattle.script.specs.declared.command.Command.TheVariants.{Bench, Compute, Load, Evaluate, Show}
use Rattle.script.specs.declared.command.Computation.{Computation}
use Rattle.script.specs.declared.command.Line.{Line}
use Rattle.script.specs.declared.command.Line.TheVariants.{Skipped, Obeyed, Unreadable}
use Rattle.script.specs.Commands.{Given, bench_command, compute_command, evaluate_command}

pub data Order : Type 0 where
  bench : Blueprint → Order
  compute : Computation → Order
  evaluate : Given → Order
  load show : Order

pub data Ordered : Type 0 where
  skipped unreadable : Ordered
  obeyed : Order → Ordered

-- a command and a line by what they say
abbrev pub arguments_seen : Arguments → Given
arguments_seen a = record { inputs = vec_items a.inputs; choices = vec_items a.choices }

abbrev pub order_seen : Command → Order
order_seen (Bench b) = bench b
order_seen (Compute c) = compute c
order_seen Load = load
order_seen (Evaluate a) = evaluate (arguments_seen a)
order_seen Show = show

abbrev pub line_seen : Line → Ordered
line_seen Skipped = skipped
line_seen (Obeyed c) = obeyed (order_seen c)
line_seen Unreadable = unreadable

abbrev pub plain_order : Bytes → List Bytes → Option Order
plain_order name ws =
    cond (same_word name (codes "bench")) (option_map bench (bench_command ws))
    (cond (same_word name (codes "compute")) (option_map compute (compute_command ws))
    (cond (same_word name (codes "load") && no_word ws) (Some load)
    (cond (same_word name (codes "show") && no_word ws) (Some show) None)))

abbrev pub order_named : Bytes → List Bytes → Option Order
order_named name ws = cond (same_word name (codes "evaluate")) (option_map evaluate (evaluate_command ws)) (plain_order name ws)

abbrev pub obeyed_if : Option Order → Ordered
obeyed_if (Some o) = obeyed o
obeyed_if None = unreadable

-- a line without a word, or whose first word begins with `#`, is skipped
abbrev pub ordered : List Bytes → Ordered
ordered [] = skipped
ordered (w ∷ ws) = cond (slice_index w 0 == 35) skipped (obeyed_if (order_named w ws))

abbrev pub line_read : Bytes → Ordered
line_read line = ordered (words Spaces line)
