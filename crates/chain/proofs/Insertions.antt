-- A record put into a chain behind or before another. Assumes nothing.
use Rattle.std.proofs.Common.{◌≡◌, ℕ, ◌-◌, ◌≤◌, eqb, ◌⊎◌, List, [], ◌∷◌, length, sym, refl, ap, ◌∙◌, subst, inl, inr, ⊎_elim, arith}
use Rattle.std.proofs.lemmas.Bool.{ne_eqb, eq-eqb, eqb-true, eqb-false, cond-true, cond-false, cond_both, cases_Bool}
use Rattle.std.proofs.lemmas.List.{length-set, get_or-set_same, get_or-set_other}
use Rattle.chain.specs.Chains.{Chained, Apart, Among, OthersStay, Misses, Within, link, relink}
use Rattle.chain.specs.Places.{put_before, put_behind, predecessor, Inserts}
use Rattle.chain.proofs.Relinks.{stay, one_list, apart_among, clear_among, zero_apart}
use Rattle.chain.proofs.Places.{apart_behind, behind_none}

-- what the two changed links leave of a chain
module _ (links : List ℕ) (place at : ℕ) (behind : Within links place) (within : Within links at) (ne : place ≡ at → ⊥) where
  abbrev after : List ℕ
  after = relink (relink links at (link links place)) place at

  long : length after ≡ length links
  long = length-set (relink links at (link links place)) (place - 1) at ∙ length-set links (at - 1) (link links place)

  at_place : link after place ≡ at
  at_place = get_or-set_same (relink links at (link links place)) (place - 1) at 0 (omega (arith, length-set links (at - 1) (link links place)))

  at_at : link after at ≡ link links place
  at_at =
      get_or-set_other (relink links at (link links place)) (place - 1) (at - 1) at 0 (λ e. ne (omega arith)) ∙
      get_or-set_same links (at - 1) (link links place) 0 (omega arith)

  at_else : (k : ℕ) → 1 ≤ k → (k ≡ place → ⊥) → (k ≡ at → ⊥) → link after k ≡ link links k
  at_else k h n m =
      get_or-set_other (relink links at (link links place)) (place - 1) (k - 1) at 0 (λ e. n (omega arith)) ∙
      get_or-set_other links (at - 1) (k - 1) (link links place) 0 (λ e. m (omega arith))

  pub inserted : Inserts links after place at
  inserted first [] a c = c
  inserted first (k ∷ ks) a c =
      let n = long in
      cond_both (eqb k place) (k ∷ at ∷ ks) (k ∷ put_behind place at ks) (Chained after first)
      (λ e.
      let is = eqb-true k place e in (
        c.0,
        c.1,
        omega (arith, c.2),
        ((λ same. ne (sym is ∙ same)), c.3),
        (
          subst (λ x. link after x ≡ at) (sym is) at_place,
          within.low,
          omega arith,
          a.1,
          subst (λ f. Chained after f ks) (sym (at_at ∙ ap (link links) (sym is)))
              (stay (relink links at (link links place)) place at behind.low (link links k) ks (subst (λ x. Apart x ks) is c.3) (stay links at (link links place) within.low (link links k) ks a.1 c.4)),
        ),
      ))
      (λ e. (
        c.0,
        c.1,
        omega (arith, c.2),
        apart_behind k place at ks c.3 (λ same. a.0 (sym same)),
        subst (λ f. Chained after f (put_behind place at ks)) (sym (at_else k c.1 (eqb-false k place e) (λ same. a.0 (sym same)))) (inserted (link links k) ks a.1 c.4),
      ))

pub inserts_others : (before after : List ℕ) (place at : ℕ) (gone : List ℕ) → Among place gone → Inserts before after place at → OthersStay before after (at ∷ gone)
inserts_others before after place at gone m i first ks a c =
    subst (Chained after first) (behind_none place at ks (clear_among place gone ks m a.1)) (i first ks a.0 c)

-- to stand before `place` is to stand first, or behind the record before it
record Before (last place at : ℕ) (ks : List ℕ) : Type 0 where
  by : ℕ
  is : predecessor last ks place ≡ by
  way : ((by ≡ last) × (put_before place at ks ≡ at ∷ ks)) ⊎ ((by ≡ last → ⊥) × Among by ks × (put_behind by at ks ≡ put_before place at ks))

stands_before : (links : List ℕ) (last place at first : ℕ) (ks : List ℕ) → Apart last ks → Chained links first ks → Before last place at ks
stands_before links last place at first [] a c = record { by = last; is = refl; way = inl (refl, refl) }
stands_before links last place at first (k ∷ ks) a c =
    ⊎_elim
    (λ e. record { by = last; is = cond-true (eqb k place) _ _ e; way = inl (refl, cond-true (eqb k place) _ _ e) })
    (λ e.
    let r = stands_before links k place at (link links k) ks c.3 c.4 in
    let q = r.by in
    let skip : put_before place at (k ∷ ks) ≡ k ∷ put_before place at ks = cond-false (eqb k place) _ _ e in
    record {
      by = q;
      is = cond-false (eqb k place) _ _ e ∙ r.is;
      way = ⊎_elim
          (λ w. inr ((λ h. a.0 (sym h ∙ w.0)), inl w.0, cond-true (eqb k q) (k ∷ at ∷ ks) (k ∷ put_behind q at ks) (eq-eqb k q (sym w.0)) ∙ ap (λ l. k ∷ l) (sym w.1) ∙ sym skip))
          (λ w. inr ((λ h. apart_among q last ks a.1 w.1 h), inr w.1, cond-false (eqb k q) (k ∷ at ∷ ks) (k ∷ put_behind q at ks) (ne_eqb k q (λ h. w.0 (sym h))) ∙ ap (λ l. k ∷ l) w.2 ∙ sym skip))
          r.way;
    })
    (cases_Bool (eqb k place))

-- `last` is what a search for the record before `place` gave
module _ (links : List ℕ) (first place at last : ℕ) (found : (js : List ℕ) → Chained links first js → last ≡ predecessor 0 js place) (ks : List ℕ) (c : Chained links first ks) where
  b : Before 0 place at ks
  b = stands_before links 0 place at first ks (zero_apart links first ks c) c

  pub goes_first : last ≡ 0 → put_before place at ks ≡ at ∷ ks
  goes_first z = ⊎_elim (λ w. w.1) (λ w. absurd (w.0 (sym (found ks c ∙ b.is) ∙ z))) b.way

  pub goes_behind : (last ≡ 0 → ⊥) → Among last ks × (put_behind last at ks ≡ put_before place at ks)
  goes_behind n =
      let q = found ks c ∙ b.is in
      ⊎_elim (λ w. absurd (n (q ∙ w.0))) (λ w. (subst (λ x. Among x ks) (sym q) w.1, subst (λ x. put_behind x at ks ≡ put_before place at ks) (sym q) w.2)) b.way

pub misses : (links : List ℕ) (first at : ℕ) → Misses links first at → (ks : List ℕ) → Chained links first ks → Apart at ks
misses links first at m ks c = subst (Apart at) (one_list links first m.0 ks m.1 c) m.2
