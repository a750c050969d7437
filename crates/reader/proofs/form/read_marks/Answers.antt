use Rattle.scan.specs.Pieces.{left}
use Rattle.reader.proofs.Marked.{marked_all}
use Rattle.reader.proofs.form.read_marks.Goals as goal

pub returns : goal.returns
returns c =
    let e = marked_all c.args.op c.permitted_marks-permitted.result.bits c.loop-mark.marks (left c.loop-mark.words) (left c.next_mark.new.words) (left c.args.words.now) c.permitted_marks-permitted.ensures.members c.in_default.ensures.value c.next_mark.ensures.after c.loop-mark.invariant in
    record { value = e.0; after = e.1 }
