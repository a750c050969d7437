use Rattle.std.proofs.Common.{◌≡◌, ℕ, ◌-◌, ltb, ◌∷◌, sym, refl, subst, arith}
use Rattle.checker.specs.Walks.{above, sets, set_of}
use Rattle.checker.proofs.Walks.{carried_none, length_sets, turn_on, turn_back, set_first}
use Rattle.checker.proofs.case.Case.next.Goals as goal

pub loop-place-init : goal.loop-place-init
loop-place-init g c =
    let s = c.args.self in
    let m = g.D.Domain.model c.args.codes.now.domain.now in
    carried_none (sets m s.variable_count s.choice_count) s.digits _ (omega (arith, length_sets m s.variable_count s.choice_count))

pub returns-in-Some : goal.returns-in-Some
returns-in-Some g c =
    let s = c.args.self in
    let l = c.loop-place in (
      turn_on (g.D.Domain.model c.args.codes.now.domain.now) s.variable_count s.choice_count s.variable_count l.place s.digits l.digits refl
          c.loop-place-test.true (omega arith) (omega (arith, s.long, s.few_variables, s.few_choices)) l.invariant c.in-Some.code c.in-Some.ensures,
      refl,
      refl,
    )

pub loop-place-preserved : goal.loop-place-preserved
loop-place-preserved g c =
    let s = c.args.self in
    let k = c.args.codes.now in
    let l = c.loop-place in
    let m = g.D.Domain.model k.domain.now in
    let free = ltb (l.place - 1) s.variable_count in
    let P : ℕ → Type 0 = λ x. set_of m free ≡ x ∷ above x (set_of m free) in
    let least = subst P (sym c.first.ensures) (set_first m k.size k.least (omega (arith, (g.met.D.Domain.lawful k.domain.now).least_size)) k.known free) in
    turn_back m s.variable_count s.choice_count s.variable_count l.place s.digits l.digits refl
    c.loop-place-test.true (omega arith) (omega (arith, s.long, s.few_variables, s.few_choices)) l.invariant c.first.result c.in_default.ensures least
