use Rattle.std.proofs.Common.{◌≡◌, slice_get, take, Some, None, Ok, sym, ap, ◌∙◌}
use Rattle.std.specs.Option.{option_map}
use Rattle.std.proofs.lemmas.Option.{slice_get-map, slice_get_past}
use Rattle.vocabulary.specs.Names.{operand_count}
use Rattle.reader.specs.Scopes.{known_names}
use Rattle.reader.specs.Tokens.{seen, taken}
use Rattle.reader.specs.Meanings.{far, meaning_or_filler}
use Rattle.reader.proofs.Told.{none_at, item_at}
use Rattle.reader.proofs.scope.Scope.meaning_at.Given.{Over}
use Rattle.reader.proofs.scope.Scope.meaning_at.Goals as goal
use Rattle.reader.proofs.scope.Scope.meaning_at.Goals.{In-Some}

there : (g : Over) (c : goal.In-Some g) → slice_get (taken c.args.written.now) c.args.place ≡ Some c.in-Some.field-0.now
there g c =
    ap (λ xs. slice_get xs c.args.place) (sym (c.taken.ensures ∙ ap (take (operand_count c.args.written.now.operation)) c.places-places.ensures))
    ∙ item_at c.taken.result.now c.args.place c.in-Some.field-0.now c.in-Some.ensures.lookup.3.0 c.in-Some.ensures.lookup.1

pub meaning-requires : goal.meaning-requires
meaning-requires g c = none_at far (taken c.args.written.now) c.args.place c.in-Some.field-0.now c.requires (there g c)

pub returns-in-Some : goal.returns-in-Some
returns-in-Some g c =
    let m = g.D.Domain.model c.args.domain.now in
    let operands = taken c.args.written.now in
    c.meaning.ensures
    ∙ ap (meaning_or_filler m (known_names c.args.self.now)) (sym (slice_get-map seen operands c.args.place ∙ ap (option_map seen) (there g (goal.at.returns-in-Some g c).In-Some)))

pub returns-in-None : goal.returns-in-None
returns-in-None g c =
    let m = g.D.Domain.model c.args.domain.now in
    let operands = taken c.args.written.now in
    let nothing : slice_get operands c.args.place ≡ None = ap (λ xs. slice_get xs c.args.place) (sym (c.taken.ensures ∙ ap (take (operand_count c.args.written.now.operation)) c.places-places.ensures)) ∙ slice_get_past c.taken.result.now c.args.place c.in-None.ensures.lookup.3 in
    ap (λ o. Ok o) c.default.ensures
    ∙ ap (meaning_or_filler m (known_names c.args.self.now)) (sym (slice_get-map seen operands c.args.place ∙ ap (option_map seen) nothing))
