-- A record taken out of a chain. Assumes nothing.
use Rattle.std.proofs.Common.{◌≡◌, ℕ, ◌-◌, eqb, ◌⊎◌, List, [], ◌∷◌, sym, refl, ◌∙◌, subst, inl, inr, ⊎_elim, arith}
use Rattle.std.proofs.lemmas.Bool.{eqb-true, eqb-false, cond-true, cond-false, cases_Bool}
use Rattle.std.proofs.lemmas.List.{length-set, get_or-set_other}
use Rattle.chain.specs.Chains.{Chained, Apart, Among, Passes, link, relink}
use Rattle.chain.specs.Places.{without, predecessor}
use Rattle.chain.proofs.Relinks.{pushed, one_list, among_within, apart_among, zero_apart}
use Rattle.chain.proofs.Places.{without_none, apart_without}

-- without `at`, the chain begins behind it, or the record before it leads past it
record Cut (links : List ℕ) (last at first : ℕ) (ks : List ℕ) : Type 0 where
  by : ℕ
  is : predecessor last ks at ≡ by
  way : (Chained links (link links at) (without at ks) × (by ≡ last)) ⊎ (Chained (relink links by (link links at)) first (without at ks) × (by ≡ last → ⊥) × Among by ks)

cuts : (links : List ℕ) (last at first : ℕ) (ks : List ℕ) → Apart last ks → Among at ks → Chained links first ks → Cut links last at first ks
cuts links last at first [] a m c = absurd m
cuts links last at first (k ∷ ks) a m c =
    ⊎_elim
    (λ e.
    let is = eqb-true k at e in
    let gone : without at (k ∷ ks) ≡ ks = cond-true (eqb k at) (without at ks) (k ∷ without at ks) e ∙ without_none at ks (subst (λ x. Apart x ks) is c.3) in
    record { by = last; is = cond-true (eqb k at) _ _ e; way = inl (subst (Chained links (link links at)) (sym gone) (subst (λ x. Chained links (link links x) ks) is c.4), refl) })
    (λ e.
    let m2 : Among at ks = ⊎_elim (λ h. absurd (eqb-false k at e (sym h))) (λ h. h) m in
    let r = cuts links k at (link links k) ks c.3 m2 c.4 in
    let q = r.by in
    let to = link links at in
    let far = apart_without k at ks c.3 in
    let stays : without at (k ∷ ks) ≡ k ∷ without at ks = cond-false (eqb k at) _ _ e in
    record {
      by = q;
      is = cond-false (eqb k at) _ _ e ∙ r.is;
      way = ⊎_elim
          (λ w. inr (
            subst (Chained (relink links q to) first) (sym stays) (subst (λ x. Chained (relink links x to) first (k ∷ without at ks)) (sym w.1) (subst (λ f. Chained (relink links k to) f (k ∷ without at ks)) (sym c.0) (pushed links k to (without at ks) (record { low = c.1; high = c.2 }) far w.0))),
            (λ h. a.0 (sym h ∙ w.1)),
            inl w.1,
          ))
          (λ w. inr (
            subst (Chained (relink links q to) first) (sym stays) (
              c.0,
              c.1,
              omega (arith, length-set links (q - 1) to, c.2),
              far,
              subst (λ f. Chained (relink links q to) f (without at ks)) (sym (get_or-set_other links (q - 1) (k - 1) to 0 (λ h. w.1 (omega (arith, (among_within links q (link links k) ks w.2 c.4).low, c.1))))) w.0,
            ),
            (λ h. apart_among q last ks a.1 w.2 h),
            inr w.2,
          ))
          r.way;
    })
    (cases_Bool (eqb k at))

-- `last` is what a search for the record before `at` gave
module _ (links : List ℕ) (first at last : ℕ) (p : Passes links first at) (found : (js : List ℕ) → Chained links first js → last ≡ predecessor 0 js at) (ks : List ℕ) (c : Chained links first ks) where
  b : Cut links 0 at first ks
  b = cuts links 0 at first ks (zero_apart links first ks c) (subst (Among at) (one_list links first p.0 ks p.1 c) p.2) c

  pub first_gone : last ≡ 0 → Chained links (link links at) (without at ks)
  first_gone z = ⊎_elim (λ w. w.0) (λ w. absurd (w.1 (sym (found ks c ∙ b.is) ∙ z))) b.way

  pub led_past : (last ≡ 0 → ⊥) → Among last ks × Chained (relink links last (link links at)) first (without at ks)
  led_past n =
      let q = found ks c ∙ b.is in
      ⊎_elim (λ w. absurd (n (q ∙ w.1))) (λ w. (subst (λ x. Among x ks) (sym q) w.2, subst (λ x. Chained (relink links x (link links at)) first (without at ks)) (sym q) w.0)) b.way
