use Rattle.std.proofs.Common.{◌≡◌, [], ◌∷◌, ◌++◌, length, Ok, Err, sym, ap, ◌∙◌, rules}
use Rattle.copy_vec.specs.Items.{items}
use Rattle.text.specs.Faults.{next}
use Rattle.reader.specs.NameTables.{names_in}
use Rattle.reader.specs.ReadFaults.{answered, left_at}
use Rattle.reader.specs.Readings.{section_of, named_all}
use Rattle.reader.proofs.Readings.{named_push, line_entered, full_is}
use Rattle.reader.proofs.program.Reading.take_instruction.Goals as goal

pub returns-in_err-instruction-clause-value : goal.returns-in_err-instruction-clause-value
returns-in_err-instruction-clause-value g c =
    let r = c.args.self.now in
    let m = g.D.Domain.model c.args.domain.now in
    let f = c.in_err-instruction.field-0.0 in
    let full = c.is_full-full.ensures.value ∙ full_is (length (items r.body)) c.is_full-full.ensures.few in
    let is : c.from_residual.result ≡ Err f = search rules in
    λ s spells.
    ap (left_at _) is
    ∙ line_entered m (names_in r.scope.variables) (names_in r.scope.instructions) (items r.body) r.all_named c.is_full-full.result full r.result s c.args.written.name.now spells.name (Err f)
    (ap answered (sym c.in_err-instruction.was) ∙ c.read_instruction.ensures.value s spells)

pub returns-clause-value : goal.returns-clause-value
returns-clause-value g c =
    let r = c.args.self.now in
    let m = g.D.Domain.model c.args.domain.now in
    let ns = names_in r.scope.instructions in
    let n = c.args.written.name.now in
    let i = c.in_ok-instruction.instruction in
    let full = c.is_full-full.ensures.value ∙ full_is (length (items r.body)) c.is_full-full.ensures.few in
    let body : named_all (names_in c.push-2.new.self) (items c.push.new.self) ≡ named_all ns (items r.body) ++ record { name = n; what = i } ∷ [] = (λ j. named_all (c.push-2.ensures j) (c.push.ensures j)) ∙ named_push ns (items r.body) n i r.all_named in
    λ s spells.
    (λ j. next (record { section = section_of (c.requires j); inputs = names_in r.scope.variables; body = body j; result = r.result }))
    ∙ line_entered m (names_in r.scope.variables) ns (items r.body) r.all_named c.is_full-full.result full r.result s n spells.name (Ok i)
    (ap answered (sym c.in_ok-instruction.was) ∙ c.read_instruction.ensures.value s spells)
