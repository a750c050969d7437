-- Two chains that share no record, where a record leaves or enters one. Assumes nothing.
use Rattle.std.proofs.Common.{◌≡◌, ℕ, ◌≤◌, List, [], ◌∷◌, length, sym, subst, arith}
use Rattle.chain.specs.Chains.{Chained, Apart, Clear, OthersStay, Becomes, Within, link}
use Rattle.chain.specs.Places.{put_before, without}
use Rattle.chain.specs.Walks.{Disjoint}
use Rattle.chain.proofs.Places.{clear_before, clear_without}
use Rattle.chain.proofs.Walks.{onward}

apart_first : (at : ℕ) (ks js : List ℕ) → Clear ks (at ∷ js) → Apart at ks
apart_first at [] js c = tt
apart_first at (k ∷ ks) js c = ((λ e. c.0.0 (sym e)), apart_first at ks js c.1)

clear_rest : (at : ℕ) (ks js : List ℕ) → Clear ks (at ∷ js) → Clear ks js
clear_rest at [] js c = tt
clear_rest at (k ∷ ks) js c = (c.0.1, clear_rest at ks js c.1)

clear_one_more : (at : ℕ) (ks js : List ℕ) → Apart at ks → Clear ks js → Clear ks (at ∷ js)
clear_one_more at [] js a c = tt
clear_one_more at (k ∷ ks) js a c = (((λ e. a.0 (sym e)), c.0), clear_one_more at ks js a.1 c.1)

-- a record leaves the first chain
pub leaves : (l0 l1 : List ℕ) (first free first2 at : ℕ) (ks js : List ℕ) → Disjoint l0 first free ks js → Becomes l0 first l1 first2 (without at) [] → Disjoint l1 first2 free (without at ks) js
leaves l0 l1 first free first2 at ks js d b = record {
  used = b.chain ks d.used;
  spare = b.others ks d.used free js d.clear d.spare;
  clear = clear_without at ks js d.clear;
}

-- a record enters the first chain
pub enters : (l0 l1 : List ℕ) (first free first2 place at : ℕ) (ks js : List ℕ) → Disjoint l0 first free ks js → Apart at js → Becomes l0 first l1 first2 (put_before place at) (at ∷ []) → Disjoint l1 first2 free (put_before place at ks) js
enters l0 l1 first free first2 place at ks js d a b = record {
  used = b.chain ks d.used;
  spare = b.others ks d.used free js (a, d.clear) d.spare;
  clear = clear_before place at ks js a d.clear;
}

-- a record comes to the front of the second chain
pub comes_free : (l0 l1 : List ℕ) (first free at : ℕ) (ks js : List ℕ) → Disjoint l0 first free ks js → Apart at ks → Apart at js →
    ((is : List ℕ) → Apart at is → Chained l0 free is → Chained l1 at (at ∷ is)) → OthersStay l0 l1 (at ∷ []) → Disjoint l1 first at ks (at ∷ js)
comes_free l0 l1 first free at ks js d a b pushes stays = record {
  used = stays first ks (a, tt) d.used;
  spare = pushes js b d.spare;
  clear = clear_one_more at ks js a d.clear;
}

-- the first record of the second chain is in neither once it is taken off
pub record Taken (links : List ℕ) (first free : ℕ) (ks js : List ℕ) : Type 0 where
  pub rest : List ℕ
  pub is : js ≡ free ∷ rest
  pub chains : Disjoint links first (link links free) ks rest
  pub within : Within links free
  pub apart : Apart free rest
  pub away : Apart free ks

pub takes_off : (links : List ℕ) (first free : ℕ) (ks js : List ℕ) → Disjoint links first free ks js → 1 ≤ length js → Taken links first free ks js
takes_off links first free ks [] d h = absurd (omega arith)
takes_off links first free ks (j ∷ js) d h =
    let w = onward links free (j ∷ js) d.spare (λ z. omega (arith, z, d.spare.0, d.spare.1)) in
    let clear : Clear ks (free ∷ w.behind) = subst (Clear ks) w.is d.clear in
    record {
      rest = w.behind;
      is = w.is;
      chains = record { used = d.used; spare = w.chain; clear = clear_rest free ks w.behind clear };
      within = record { low = w.low; high = w.high };
      apart = w.apart;
      away = apart_first free ks w.behind clear;
    }
