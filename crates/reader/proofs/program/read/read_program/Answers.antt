use Rattle.std.proofs.Common.{◌≡◌, length, sym, ap, ◌∙◌, arith}
use Rattle.std.proofs.lemmas.Bool.{le-leb}
use Rattle.scan.specs.declared.Separators.TheVariants.{LineFeeds}
use Rattle.scan.specs.Pieces.{separates, lines, pieces_left}
use Rattle.scan.proofs.Cuts.{few_pieces}
use Rattle.text.specs.Faults.{walk, sized}
use Rattle.text.specs.ProgramTexts.{program_step, program_end, nothing_read}
use Rattle.reader.proofs.program.read.read_program.Goals as goal

pub loop-line-init : goal.loop-line-init
loop-line-init g c =
    let step = program_step (g.D.Domain.model c.args.domain.now) in
    let text = c.args.text.now in
    let all : pieces_left c.into_iter-line-iterator.result ≡ lines text = ap pieces_left c.into_iter-line-iterator.ensures.into_iter_gives ∙ c.lines-line-items.ensures in
    let short = le-leb (length text) 4096 (omega arith) in
    record {
      few = omega (arith, ap length all, few_pieces (separates LineFeeds) text);
      answer = (λ j. walk step program_end (c.new-reading.ensures j) 1 (all j)) ∙ ap (λ b. sized b step program_end nothing_read text) (sym short);
    }
