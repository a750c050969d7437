use Rattle.std.proofs.Common.{◌-◌, set, sym, ap, ◌∙◌, arith}
use Rattle.std.proofs.lemmas.List.{map-set, set-get_or, get_or-map}
use Rattle.program.specs.declared.record.Record.{Record}
use Rattle.program.specs.View.{links}
use Rattle.program.proofs.record.put.Goals as goal

pub returns-clause-what : goal.returns-clause-what
returns-clause-what c = grind (arith, map-set)

pub returns-clause-rest : goal.returns-clause-rest
returns-clause-rest c =
    let rs = c.args.records.now in
    let k = c.args.at - 1 in
    map-set (λ (r : Record). r.next) rs k _ ∙ ap (set (links rs) k) (sym (get_or-map (λ (r : Record). r.next) rs k _ 0 (omega arith))) ∙ set-get_or (links rs) k 0
