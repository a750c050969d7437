-- A refuted rule is convicted by its own source. Assumes nothing.
use Rattle.std.proofs.Common.{◌≡◌, ℕ, suc, ◌-◌, ◌≤◌, cond, not, T, eqb, List, [], ◌∷◌, map, length, sym, refl, ap, ◌∙◌, ⊎_elim, arith, eqb→eq}
use lib.Dec.{not_T}
use lib.ListN.{length-map}
use Rattle.domain.specs.Model.{Model}
use Rattle.semantics.specs.Programs.{Placed, is_freeze, freezes, has, records}
use Rattle.semantics.specs.Rules.{Rule, WellMade, numbered, source_of, Match, removed, placed, spliced, rewritten, Fresh, Convicted}
use Rattle.semantics.specs.Cases.{from}
use Rattle.semantics.proofs.Members.{In, out, in_stands, all_from_in}
use Rattle.semantics.proofs.Homes.{numbered_within, length_numbered}
use Rattle.semantics.proofs.Numbers.{from_in, from_distinct}
use Rattle.semantics.proofs.Listed.{length_from}
use Rattle.semantics.proofs.Splice.{spliced_cases}
use Rattle.semantics.proofs.Fitting.{targets, home_of}
use Rattle.semantics.proofs.Rewritten.{formed_new}
use Rattle.semantics.proofs.Convicted.{itself, fits_itself, own, rewritten_source, refines_none}

-- a source has the records up to its length
source_upto : (r : Rule) (k : ℕ) → In k (records (spliced (removed itself r) (length r.source) [] (numbered 1 r.source))) → k ≤ length r.source
source_upto r k h =
    let (i, s) = in_stands _ k h in
    ⊎_elim
    (λ old. (numbered_within (length r.source) 1 r.source (omega arith) (omega arith) k i old.0).high)
    (λ none. absurd none)
    (spliced_cases (removed itself r) (length r.source) [] (numbered 1 r.source) k i s)

-- the records after the source's are free
own_fresh : (m : Model) (r : Rule) → WellMade m r → (fresh : List ℕ) × Fresh (source_of r) r (length r.source) itself fresh
own_fresh m r made = (
  from (suc size) more,
  record {
    enough = ap suc (length_from (suc size) more) ∙ omega (arith, made.target_formed.some, length_numbered 1 r.target);
    distinct = from_distinct (suc size) more;
    within = all_from_in (λ k. (1 ≤ k) × (k ≤ 64)) (from (suc size) more) (λ k h. let b = from_in (suc size) more k h in (omega arith, omega (arith, made.source_few, made.target_few)));
    free = all_from_in (λ k. T (not (has k (records (spliced (removed itself r) size [] (numbered 1 r.source))))) × T (not (eqb k size))) (from (suc size) more) (λ k h.
        let b = from_in (suc size) more k h in (
          out k _ (λ t. let u = source_upto r k t in omega arith),
          not_T (eqb k size) (λ t. let u = eqb→eq k size t in omega arith),
        ));
  },
)
  where
    size : ℕ
    size = length r.source

    more : ℕ
    more = length r.target - 1

freezes_home : (w : Match) (h : ℕ → ℕ) (xs : List Placed) → freezes (map (placed w h) xs) ≡ freezes xs
freezes_home w h [] = refl
freezes_home w h (x ∷ xs) = ap (λ n. cond (is_freeze x.what) (suc n) n) (freezes_home w h xs)

module _ (m : Model) (r : Rule) (made : WellMade m r) (fresh : List ℕ) (free : Fresh (source_of r) r (length r.source) itself fresh) where
  -- the rewritten source has the target's freezes
  own_freezes : freezes (rewritten (source_of r) r (length r.source) itself fresh).body ≡ freezes (numbered 1 r.target)
  own_freezes =
      let c = own m r made fresh free in
      ap freezes (rewritten_source m r made fresh free) ∙ freezes_home itself (home_of c) (targets c)

  -- and its length
  own_few : length (rewritten (source_of r) r (length r.source) itself fresh).body ≤ 64
  own_few =
      let c = own m r made fresh free in
      omega (arith, ap length (rewritten_source m r made fresh free), length-map (targets c) (placed itself (home_of c)), length_numbered 1 r.target, made.target_few)

-- a refuted rule is convicted by its own source
pub convicted : (m : Model) → Convicted m
convicted m r made vars cs refuted = record {
  match = itself;
  fits = fits_itself m r made;
  room = own_fresh m r made;
  fails = λ fresh free. record {
    formed = formed_new (own m r made fresh free) (own_few m r made fresh free);
    inputs = record { count = refuted.codes.count; codes = refuted.codes.codes };
    choices = record { count = refuted.choices.count ∙ sym (own_freezes m r made fresh free); settled = refuted.choices.settled };
    none = refines_none m r made vars cs refuted fresh free;
  };
}
