-- What one changed link leaves of the chains. Assumes nothing.
use Rattle.std.proofs.Common.{◌≡◌, ℕ, ◌-◌, ◌≤◌, List, [], ◌∷◌, map, sym, refl, ◌∙◌, subst, inl, inr, arith}
use Rattle.std.proofs.lemmas.List.{length-map, length-set, get_or-set_same, get_or-set_other}
use Rattle.chain.specs.Chains.{Chained, Apart, Among, Clear, OthersStay, Within, link, relink}

-- a chain without the record whose link changes
pub stay : (links : List ℕ) (k to : ℕ) → 1 ≤ k → (first : ℕ) (ks : List ℕ) → Apart k ks → Chained links first ks → Chained (relink links k to) first ks
stay links k to low first [] a c = c
stay links k to low first (x ∷ xs) a c =
    let ne : x - 1 ≡ k - 1 → ⊥ = λ e. a.0 (omega (arith, c.1)) in
    (c.0, c.1, omega (arith, length-set links (k - 1) to, c.2), c.3, subst (λ f. Chained (relink links k to) f xs) (sym (get_or-set_other links (k - 1) (x - 1) to 0 ne)) (stay links k to low (link links x) xs a.1 c.4))

-- a chain with a record in front of it
pub pushed : (links : List ℕ) (k first : ℕ) (ks : List ℕ) → Within links k → Apart k ks → Chained links first ks → Chained (relink links k first) k (k ∷ ks)
pushed links k first ks w a c = (
  refl,
  w.low,
  omega (arith, length-set links (k - 1) first),
  a,
  subst (λ f. Chained (relink links k first) f ks) (sym (get_or-set_same links (k - 1) first 0 (omega arith))) (stay links k first w.low first ks a c),
)

-- a chain has one list of records
pub one_list : (links : List ℕ) (first : ℕ) (ks js : List ℕ) → Chained links first ks → Chained links first js → ks ≡ js
one_list links first [] [] c d = refl
one_list links first [] (j ∷ js) c d = absurd (omega (arith, c, d.0, d.1))
one_list links first (k ∷ ks) [] c d = absurd (omega (arith, d, c.0, c.1))
one_list links first (k ∷ ks) (j ∷ js) c d =
    let e = sym c.0 ∙ d.0 in
    let r = one_list links (link links k) ks js c.4 (subst (λ x. Chained links (link links x) js) (sym e) d.4) in
    cc

pub zero_apart : (links : List ℕ) (first : ℕ) (ks : List ℕ) → Chained links first ks → Apart 0 ks
zero_apart links first [] c = tt
zero_apart links first (k ∷ ks) c = ((λ e. omega (arith, c.1)), zero_apart links (link links k) ks c.4)

-- a number is a record's by the records as by their links
pub by_links : {R : Type 0} (s : R → ℕ) (rs : List R) (k : ℕ) → Within rs k → Within (map s rs) k
by_links s rs k w = record { low = w.low; high = omega (arith, length-map rs s) }

pub by_records : {R : Type 0} (s : R → ℕ) (rs : List R) (k : ℕ) → Within (map s rs) k → Within rs k
by_records s rs k w = record { low = w.low; high = omega (arith, length-map rs s) }

pub among_within : (links : List ℕ) (k first : ℕ) (ks : List ℕ) → Among k ks → Chained links first ks → Within links k
among_within links k first [] a c = absurd a
among_within links k first (x ∷ xs) (inl e) c = record { low = omega (arith, e, c.1); high = omega (arith, e, c.2) }
among_within links k first (x ∷ xs) (inr a) c = among_within links k (link links x) xs a c.4

pub apart_among : (k at : ℕ) (ks : List ℕ) → Apart at ks → Among k ks → k ≡ at → ⊥
apart_among k at [] a m e = m
apart_among k at (x ∷ xs) a (inl q) e = a.0 (sym e ∙ q)
apart_among k at (x ∷ xs) a (inr m) e = apart_among k at xs a.1 m e

pub clear_among : (k : ℕ) (gone ks : List ℕ) → Among k gone → Clear gone ks → Apart k ks
clear_among k [] ks m c = absurd m
clear_among k (x ∷ xs) ks (inl e) c = subst (λ y. Apart y ks) (sym e) c.0
clear_among k (x ∷ xs) ks (inr m) c = clear_among k xs ks m c.1

pub relinks_others : (links : List ℕ) (k to : ℕ) (gone : List ℕ) → 1 ≤ k → Among k gone → OthersStay links (relink links k to) gone
relinks_others links k to gone low m first ks a c = stay links k to low first ks (clear_among k gone ks m a) c
