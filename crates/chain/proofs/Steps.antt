-- A walk along the links of records, one at a time. Assumes nothing.
use Rattle.std.proofs.Common.{◌≡◌, ℕ, ◌-◌, ◌<◌, List, [], ◌∷◌, map, length, get_or, refl, sym, ap, ◌∙◌, subst, ⊎_elim, arith}
use Rattle.std.specs.List.{cons_option}
use Rattle.std.specs.Option.{option_map}
use Rattle.std.proofs.lemmas.List.{length-map, get_or-map}
use Rattle.std.proofs.lemmas.Option.{slice_get-get_or, slice_get_cases}
use Rattle.chain.specs.Chains.{Chained, Ends, link}
use Rattle.chain.specs.Walks.{walk}
use Rattle.chain.specs.Records.{records_at}
use Rattle.chain.proofs.Walks.{Onward, onward, walks}

pub records_at-cons : {R : Type 0} (rs : List R) (k : ℕ) (ks : List ℕ) (x : R) → k - 1 < length rs → records_at rs (k ∷ ks) ≡ (k, get_or rs (k - 1) x) ∷ records_at rs ks
records_at-cons rs k ks x h = ap (λ r. cons_option (option_map (λ y. (k, y)) r) (records_at rs ks)) (slice_get-get_or rs (k - 1) x h)

module _ {R : Type 0} (s : R → ℕ) (rs : List R) (at : ℕ) (e : Ends (map s rs) at) where
  -- where the chain ends, nothing is left
  pub shows_nothing : at ≡ 0 → records_at rs (walk (map s rs) at) ≡ []
  shows_nothing z = ap (records_at rs) (walks (map s rs) at [] z)

  module _ (n : at ≡ 0 → ⊥) where
    w : Onward (map s rs) at e.0
    w = onward (map s rs) at e.0 e.1 n

    -- where it goes on, `at` is a record
    pub within : at - 1 < length rs
    within = omega (arith, w.low, w.high, length-map rs s)

    module _ (x : R) (to : ℕ) (t : to ≡ s (get_or rs (at - 1) x)) where
      behind : Chained (map s rs) to w.behind
      behind = subst (λ f. Chained (map s rs) f w.behind) (sym (t ∙ sym (get_or-map s rs (at - 1) x 0 within))) w.chain

      pub ends : Ends (map s rs) to
      ends = (w.behind, behind)

      -- and then come the records from the next on
      pub shows : records_at rs (walk (map s rs) at) ≡ (at, get_or rs (at - 1) x) ∷ records_at rs (walk (map s rs) to)
      shows =
          ap (records_at rs) (walks (map s rs) at e.0 e.1 ∙ w.is ∙ ap (λ l. at ∷ l) (sym (walks (map s rs) to w.behind behind))) ∙
          records_at-cons rs at (walk (map s rs) to) x within

-- the records of a chain have its numbers
pub numbers : {R : Type 0} (s : R → ℕ) (rs : List R) (first : ℕ) (ks : List ℕ) → Chained (map s rs) first ks → map (λ (p : ℕ × R). p.0) (records_at rs ks) ≡ ks
numbers s rs first [] c = refl
numbers s rs first (k ∷ ks) c =
    ⊎_elim
    (λ at. ap (λ o. map (λ p. p.0) (cons_option (option_map (λ r. (k, r)) o) (records_at rs ks))) at.2 ∙ ap (λ l. k ∷ l) (numbers s rs (link (map s rs) k) ks c.4))
    (λ past. absurd (omega (arith, past.0, c.1, c.2, length-map rs s)))
    (slice_get_cases rs (k - 1)).1
