-- Following the links gives the chain's list, and the tests tell what they should. Assumes nothing.
use Rattle.std.proofs.Common.{◌≡◌, ℕ, zero, suc, ◌≤◌, true, not, ◌&&◌, eqb, leb, List, [], ◌∷◌, length, sym, refl, ap, ◌∙◌, subst, arith}
use Rattle.std.proofs.lemmas.Bool.{and_parts, and_from, eqb-true, eqb-false, eq-eqb, ne_eqb, leb-true, le-leb, cond-true, cond-false, not-true, not_from_false}
use Rattle.chain.specs.Chains.{link, Chained, Apart, Clear, Ends}
use Rattle.chain.specs.Walks.{follow, walk, apart, clear, chained, disjoint, Disjoint}
use Rattle.chain.proofs.Counts.{few}

follows : (n : ℕ) (links : List ℕ) (first : ℕ) (ks : List ℕ) → Chained links first ks → length ks ≤ n → follow n links first ≡ ks
unfolding follow
follows zero links first [] c h = refl
follows zero links first (k ∷ ks) c h = absurd (omega arith)
follows (suc n) links first [] c h = cond-true (eqb first 0) _ _ (eq-eqb first 0 c)
follows (suc n) links first (k ∷ ks) c h =
    let t = follows n links (link links k) ks c.4 (omega arith) in
    cond-false (eqb first 0) [] (first ∷ follow n links (link links first)) (ne_eqb first 0 (λ e. omega (arith, c.0, c.1))) ∙
    ap (λ x. x ∷ follow n links (link links x)) c.0 ∙ ap (λ l. k ∷ l) t

-- a chain is what one walks
pub walks : (links : List ℕ) (first : ℕ) (ks : List ℕ) → Chained links first ks → walk links first ≡ ks
walks links first ks c = follows (length links) links first ks c (few links first ks c)

-- a chain that goes on begins with its first record
pub record Onward (links : List ℕ) (at : ℕ) (ks : List ℕ) : Type 0 where
  pub behind : List ℕ
  pub is : ks ≡ at ∷ behind
  pub low : 1 ≤ at
  pub high : at ≤ length links
  pub apart : Apart at behind
  pub chain : Chained links (link links at) behind

pub onward : (links : List ℕ) (at : ℕ) (ks : List ℕ) → Chained links at ks → (at ≡ 0 → ⊥) → Onward links at ks
onward links at [] c n = absurd (n c)
onward links at (k ∷ ks) c n = record {
  behind = ks;
  is = ap (λ x. x ∷ ks) (sym c.0);
  low = omega (arith, c.0, c.1);
  high = omega (arith, c.0, c.2);
  apart = subst (λ x. Apart x ks) (sym c.0) c.3;
  chain = subst (λ x. Chained links (link links x) ks) (sym c.0) c.4;
}

apart_to : (k : ℕ) (ks : List ℕ) → apart k ks ≡ true → Apart k ks
unfolding apart
apart_to k [] e = tt
apart_to k (x ∷ xs) e = let p = and_parts (not (eqb k x)) (apart k xs) e in (eqb-false k x (not-true (eqb k x) p.0), apart_to k xs p.1)

apart_from : (k : ℕ) (ks : List ℕ) → Apart k ks → apart k ks ≡ true
unfolding apart
apart_from k [] a = refl
apart_from k (x ∷ xs) a = and_from (not (eqb k x)) (apart k xs) (not_from_false (eqb k x) (ne_eqb k x a.0)) (apart_from k xs a.1)

clear_to : (xs ks : List ℕ) → clear xs ks ≡ true → Clear xs ks
unfolding clear
clear_to [] ks e = tt
clear_to (x ∷ xs) ks e = let p = and_parts (apart x ks) (clear xs ks) e in (apart_to x ks p.0, clear_to xs ks p.1)

clear_from : (xs ks : List ℕ) → Clear xs ks → clear xs ks ≡ true
unfolding clear
clear_from [] ks a = refl
clear_from (x ∷ xs) ks a = and_from (apart x ks) (clear xs ks) (apart_from x ks a.0) (clear_from xs ks a.1)

chained_to : (links : List ℕ) (first : ℕ) (ks : List ℕ) → chained links first ks ≡ true → Chained links first ks
unfolding chained
chained_to links first [] e = eqb-true first 0 e
chained_to links first (k ∷ ks) e =
    let p = and_parts (eqb first k) (leb 1 k && (leb k (length links) && (apart k ks && chained links (link links k) ks))) e in
    let q = and_parts (leb 1 k) (leb k (length links) && (apart k ks && chained links (link links k) ks)) p.1 in
    let r = and_parts (leb k (length links)) (apart k ks && chained links (link links k) ks) q.1 in
    let s = and_parts (apart k ks) (chained links (link links k) ks) r.1 in
    (eqb-true first k p.0, leb-true 1 k q.0, leb-true k (length links) r.0, apart_to k ks s.0, chained_to links (link links k) ks s.1)

chained_from : (links : List ℕ) (first : ℕ) (ks : List ℕ) → Chained links first ks → chained links first ks ≡ true
unfolding chained
chained_from links first [] c = eq-eqb first 0 c
chained_from links first (k ∷ ks) c =
    and_from _ _ (eq-eqb first k c.0) (and_from _ _ (le-leb 1 k c.1) (and_from _ _ (le-leb k (length links) c.2) (and_from _ _ (apart_from k ks c.3) (chained_from links (link links k) ks c.4))))

-- the links come to an end where the walk along them is a chain
pub ends_to : (links : List ℕ) (first : ℕ) → chained links first (walk links first) ≡ true → Ends links first
ends_to links first e = (walk links first, chained_to links first (walk links first) e)

pub ends_from : (links : List ℕ) (first : ℕ) → Ends links first → chained links first (walk links first) ≡ true
ends_from links first e = ap (chained links first) (walks links first e.0 e.1) ∙ chained_from links first e.0 e.1

pub disjoint_to : (links : List ℕ) (first free : ℕ) → disjoint links first free ≡ true → Disjoint links first free (walk links first) (walk links free)
unfolding disjoint
disjoint_to links first free e =
    let p = and_parts (chained links first (walk links first)) _ e in
    let q = and_parts (chained links free (walk links free)) _ p.1 in
    record { used = chained_to links first _ p.0; spare = chained_to links free _ q.0; clear = clear_to _ _ q.1 }

pub disjoint_from : (links : List ℕ) (first free : ℕ) (ks js : List ℕ) → Disjoint links first free ks js → disjoint links first free ≡ true
unfolding disjoint
disjoint_from links first free ks js d =
    let a = walks links first ks d.used in
    let b = walks links free js d.spare in
    and_from _ _ (ap (chained links first) a ∙ chained_from links first ks d.used)
    (and_from _ _ (ap (chained links free) b ∙ chained_from links free js d.spare)
    (ap (λ x. clear x (walk links free)) a ∙ ap (clear ks) b ∙ clear_from ks js d.clear))
