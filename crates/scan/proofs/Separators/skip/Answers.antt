use Rattle.std.proofs.Common.{length, drop, not, sym, ap, ◌∙◌, arith, rules}
use borrow.Author.Tests.{tests}
use Rattle.std.proofs.lemmas.List.{take_rest, drop_all}
use Rattle.std.proofs.lemmas.List.Sums.{position_or_len_is}
use Rattle.scan.specs.Pieces.{separates}
use Rattle.scan.proofs.Separators.skip.Goals as goal

pub returns-in-Some : goal.returns-in-Some
returns-in-Some c =
    let text = c.args.text.now in
    let found = position_or_len_is (λ b. not (separates c.args.self b)) text c.in-Some.start 0 (search rules) (search (rules, tests)) (search (rules, tests)) in
    take_rest text _ ∙ ap (λ n. drop n text) (sym found)

pub returns-in-None : goal.returns-in-None
returns-in-None c =
    let text = c.args.text.now in
    let none = position_or_len_is (λ b. not (separates c.args.self b)) text (length text) 0 (omega arith) (search (rules, tests)) (search (rules, tests)) in
    sym (ap (λ n. drop n text) none ∙ drop_all (length text) text (omega arith))
