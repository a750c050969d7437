-- A check enters a rule exactly when it is sound, and convicts it otherwise. Assumes nothing.
use Rattle.std.proofs.Common.{◌≡◌, ℕ, List, length, Some, None, Option, refl, ap, ◌∙◌, subst, inl, inr, arith}
use Rattle.domain.specs.Model.{Model, Lawful}
use Rattle.semantics.specs.Programs.{Refines}
use Rattle.semantics.specs.Rules.{Rule, WellMade, source_of, target_of, Refutes, ConvictedAt}
use Rattle.semantics.specs.Cases.{Case, first_refuting, FirstRefutes}
use Rattle.calls.specs.Bench.{Slot, State, check_found, check_slot, call, Call}
use Rattle.calls.specs.Histories.{after, Sound, Enters, RefutedAt, Checks, EntersExactly}
use Rattle.semantics.proofs.Contextual.{contextual}
use Rattle.semantics.proofs.Refuted.{convicted}
use Rattle.semantics.proofs.Search.{checking_exact}
use Rattle.calls.specs.States.{Proper}
use Rattle.calls.proofs.Slots.{set_here}
use Rattle.calls.proofs.Promise.{reached_proper}

-- a refuted rule is not sound
unsound : (m : Model) (r : Rule) → WellMade m r → (vars cs : List ℕ) → Refutes m r vars cs → Sound m r → ⊥
unsound m r made vars cs refutes sound =
    let c = convicted m r made vars cs refutes in
    let (new, free) = c.room in
    let fails = c.fails new free in
    let refines = sound (source_of r) made.source_formed (length r.source) c.match c.fits new free fails.formed.few in
    let (ds, chosen, h) = refines.each vars cs fails.inputs fails.choices in
    fails.none ds chosen h

module _ (m : Model) (law : Lawful m) (st : State) (s : ℕ) (r : Rule) (made : WellMade m r) (held : st.slots s ≡ Slot.draft r) where
  -- what a check of the draft does
  check_is : (o : Option Case) → first_refuting m r ≡ o → call m st (Call.check s) ≡ check_found st s r o
  check_is o e = ap (check_slot m st s) held ∙ ap (check_found st s r) e

  -- where the search finds nothing, the rule is entered
  enters : first_refuting m r ≡ None → Enters m st s r
  enters e =
      let is = check_is None e in
      record {
        answers = ap (λ z. z.0) is;
        slot = ap (λ z. z.1.slots s) is ∙ set_here st.slots s (Slot.entered r) s refl;
        last = ap (λ z. z.1.book) is;
      }

  -- where it finds a case, that is answered
  refutes_at : (c : Case) → first_refuting m r ≡ Some c → RefutedAt m st s c
  refutes_at c e = ap (λ z. z.0) (check_is (Some c) e)

  -- a rule whose target refines its source is sound
  sound : Refines m (target_of r) (source_of r) → Sound m r
  sound refines p formed at w fits new free few = contextual m law r made refines p formed at w fits new free

  -- what a check of the draft is worth
  checked : (o : Option Case) → first_refuting m r ≡ o → Checks m st s r
  checked None e = record {
    exactly = (λ h. sound ((checking_exact m law r).none.0 e), λ h. enters e);
    either = inl (enters e);
    refuted = λ c h. let is = (enters e).answers in let z : ◌≡◌ {A = ℕ} 0 1 = cc in absurd (omega arith);
  }
  checked (Some c) e =
      let first = ((checking_exact m law r).some c).0 e in
      let was = refutes_at c e in
      record {
        exactly = (λ h. let is = h.answers in let z : ◌≡◌ {A = ℕ} 0 1 = cc in absurd (omega arith), λ h. absurd (unsound m r made c.vars c.choices first.refutes h));
        either = inr (c, was);
        refuted = λ d h.
            let same : c ≡ d = cc in
            subst (λ z. FirstRefutes m r z × ConvictedAt m r z.vars z.choices) same (first, convicted m r made c.vars c.choices first.refutes);
      }

-- so it is in any proper state
pub checks_exactly : (m : Model) → Lawful m → (st : State) → Proper m st → (s : ℕ) (r : Rule) → st.slots s ≡ Slot.draft r → Checks m st s r
checks_exactly m law st proper s r held = checked m law st s r (proper.drafts s r held).made held (first_refuting m r) refl

-- and after any list of calls
pub enters_exactly : (m : Model) → Lawful m → EntersExactly m
enters_exactly m law calls s r held = checks_exactly m law (after m calls) (reached_proper m law calls) s r held
