use Rattle.std.proofs.Common.{◌+◌, length, take, drop, sym, ap, ◌∙◌, arith, rules, take_all}
use Rattle.std.proofs.lemmas.List.{take_rest, drop_all}
use Rattle.std.proofs.lemmas.List.Sums.{position_or_len_is}
use Rattle.scan.specs.Pieces.{separates}
use Rattle.scan.proofs.Cuts.{first_piece}
use Rattle.scan.proofs.Separators.split_once.Goals as goal

pub returns-in-Some : goal.returns-in-Some
returns-in-Some c =
    let text = c.args.text.now in
    let found = position_or_len_is (separates c.args.self) text c.in-Some.end 0 (search rules) (search rules) (search rules) in
    let before = ap (λ n. take n text) (sym found) in
    let after = take_rest text _ ∙ ap (λ n. drop (n + 1) text) (sym found) in
    record { before = before; after = after; meaning = λ h. first_piece (separates c.args.self) text _ _ h before after }

pub returns-in-None : goal.returns-in-None
returns-in-None c =
    let text = c.args.text.now in
    let none = position_or_len_is (separates c.args.self) text (length text) 0 (omega arith) (search rules) (search rules) in
    let before = sym (ap (λ n. take n text) none ∙ take_all (length text) text (omega arith)) in
    let after = sym (ap (λ n. drop (n + 1) text) none ∙ drop_all (length text + 1) text (omega arith)) in
    record { before = before; after = after; meaning = λ h. first_piece (separates c.args.self) text _ _ h before after }
