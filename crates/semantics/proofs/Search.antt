-- The search for the first refuting case is exact. Assumes nothing.
use Rattle.std.proofs.Common.{◌≡◌, ℕ, zero, suc, ◌*◌, ◌^◌, ◌<◌, Bool, T, List, [], ◌++◌, length, replicate, Some, None, Option, sym, refl, ap, ◌∙◌, subst, subst₂, ⊎_elim, arith, take-append-drop, Ok}
use mathlib.Core.Path.{subst⁻¹}
use lib.ListN.{length-map}
use Rattle.domain.specs.Model.{Model, Lawful, OutcomeRefines, Outcome, trap}
use Rattle.semantics.specs.Programs.{All, Inputs, Choices, Refines, outcome}
use Rattle.semantics.specs.Rules.{Rule, source_of, target_of, Refutes}
use Rattle.semantics.specs.Cases.{codes, settled_codes, tuples, freezes_in, Case, as_case, entries, cases, source_choices, outcome_refining, refutes, first_refuting, Before, Listed, Rising, ComesBefore, FirstRefutes, CheckingExact}
use Rattle.semantics.proofs.Members.{all_weaker}
use Rattle.semantics.proofs.Listed.{listed_map, map_listed, rising_map, from_bounds, bounds_from, from_rising, length_from, keep_listed, listed_keep, keep_rising, none_or_some, none_passes, first_none, first_some}
use Rattle.semantics.proofs.Numbering.{get_d_map, tuple_numbered}
use Rattle.semantics.proofs.Tuples.{tuple_one_each, one_each_tuple, tuples_rising, before_asym, length_tuples_all, length_tuples_one, one_each_split, one_each_join, one_each_all, all_one_each, take_first, drop_first}

-- the test of two outcomes
test_refines : (m : Model) (a b : Outcome) → T (outcome_refining m a b) → OutcomeRefines m a b
test_refines m (Ok a) (Ok b) t = t
test_refines m (Ok a) trap t = tt
test_refines m trap (Ok b) t = absurd t
test_refines m trap trap t = tt

-- and the other way round
refines_test : (m : Model) (a b : Outcome) → OutcomeRefines m a b → T (outcome_refining m a b)
refines_test m (Ok a) (Ok b) t = t
refines_test m (Ok a) trap t = tt
refines_test m trap (Ok b) t = absurd t
refines_test m trap trap t = tt

-- the sets rise
all_rising : (n : ℕ) (d : List ℕ) (es : List (List ℕ)) → Rising ◌<◌ d → All (Rising ◌<◌) es → All (Rising ◌<◌) (replicate n d ++ es)
all_rising zero d es r a = a
all_rising (suc n) d es r a = (r, all_rising n d es r a)

-- the same for one set alone
same_rising : (n : ℕ) (d : List ℕ) → Rising ◌<◌ d → All (Rising ◌<◌) (replicate n d)
same_rising zero d r = tt
same_rising (suc n) d r = (r, same_rising n d r)

module _ (m : Model) where
  -- a code is below the size
  code_below : (c : ℕ) → Listed c (codes m) → c < m.size
  code_below c h = let b = from_bounds 0 m.size c h in omega arith

  -- and the other way round
  below_code : (c : ℕ) → c < m.size → Listed c (codes m)
  below_code c l = bounds_from 0 m.size c (omega arith) (omega arith)

  -- a settled code is settled
  settled_listed : (c : ℕ) → Listed c (settled_codes m) → T (m.settled c)
  settled_listed c h = (keep_listed m.settled (codes m) c h).1

  -- and the other way round
  listed_settled : Lawful m → (c : ℕ) → T (m.settled c) → Listed c (settled_codes m)
  listed_settled law c t = listed_keep m.settled (codes m) c (below_code c (law.settled_code c t)) t

  -- codes rise
  pub codes_rise : Rising ◌<◌ (codes m)
  codes_rise = from_rising 0 m.size

  -- settled codes rise
  pub settled_rise : Rising ◌<◌ (settled_codes m)
  settled_rise = keep_rising m.settled (codes m) codes_rise

  module _ (r : Rule) where
    -- a case put together is the list that it is from
    whole : (t : List ℕ) → (as_case r t).vars ++ (as_case r t).choices ≡ t
    whole t = take-append-drop r.variables t

    -- so do the entries' lists
    tuples_rise : Rising Before (tuples (entries m r))
    tuples_rise = tuples_rising _ (all_rising r.variables (codes m) (replicate (freezes_in r.target) (settled_codes m)) codes_rise (same_rising (freezes_in r.target) (settled_codes m) settled_rise))

    -- so do the cases
    pub cases_rise : Rising ComesBefore (cases m r)
    cases_rise = rising_map Before ComesBefore (as_case r) (λ a b h. subst₂ Before (sym (whole a)) (sym (whole b)) h) (tuples (entries m r)) tuples_rise

    -- a case gives codes and choices
    pub case_parts : (c : Case) → Listed c (cases m r) → Inputs m (target_of r) c.vars × Choices m (target_of r) c.choices
    case_parts c h =
        let (t, in-tuples, e) = map_listed (as_case r) (tuples (entries m r)) c h in
        let (l, a, o) = one_each_split r.variables (codes m) (replicate (freezes_in r.target) (settled_codes m)) t (tuple_one_each _ t in-tuples) in
        let (k, b) = one_each_all (freezes_in r.target) (settled_codes m) (as_case r t).choices o in
        subst⁻¹ (λ c. Inputs m (target_of r) c.vars × Choices m (target_of r) c.choices) e (
          record { count = l; codes = all_weaker (λ x. Listed x (codes m)) (λ x. x < m.size) code_below (as_case r t).vars a },
          record { count = k; settled = all_weaker (λ x. Listed x (settled_codes m)) (λ x. T (m.settled x)) settled_listed (as_case r t).choices b },
        )

    module _ (law : Lawful m) where
      -- codes and choices make a case
      pub parts_case : (c : Case) → Inputs m (target_of r) c.vars → Choices m (target_of r) c.choices → Listed c (cases m r)
      parts_case c given chosen =
          let t = c.vars ++ c.choices in
          let in-tuples = one_each_tuple (entries m r) t
          (one_each_join r.variables (codes m) (replicate (freezes_in r.target) (settled_codes m)) c.vars c.choices given.count
          (all_weaker (λ x. x < m.size) (λ x. Listed x (codes m)) below_code c.vars given.codes)
          (all_one_each (freezes_in r.target) (settled_codes m) c.choices chosen.count (all_weaker (λ x. T (m.settled x)) (λ x. Listed x (settled_codes m)) (listed_settled law) c.choices chosen.settled))) in
          let vars-same = take_first r.variables c.vars c.choices given.count in
          let choices-same = drop_first r.variables c.vars c.choices given.count in
          let same : as_case r t ≡ c = λ i. record { vars = vars-same i; choices = choices-same i } in
          subst (λ c. Listed c (cases m r)) same (listed_map (as_case r) (tuples (entries m r)) t in-tuples)

      -- choices of the source are listed
      choices_listed : (ds : List ℕ) → Choices m (source_of r) ds → Listed ds (source_choices m r)
      choices_listed ds chosen = one_each_tuple _ ds (all_one_each (freezes_in r.source) (settled_codes m) ds chosen.count (all_weaker (λ x. T (m.settled x)) (λ x. Listed x (settled_codes m)) (listed_settled law) ds chosen.settled))

      -- and the other way round
      listed_choices : (ds : List ℕ) → Listed ds (source_choices m r) → Choices m (source_of r) ds
      listed_choices ds h =
          let (k, b) = one_each_all (freezes_in r.source) (settled_codes m) ds (tuple_one_each _ ds h) in
          record { count = k; settled = all_weaker (λ x. Listed x (settled_codes m)) (λ x. T (m.settled x)) settled_listed ds b }

      -- the target's outcome at a case, and the source's for some choices
      abbrev ours : Case → Outcome
      ours c = outcome m (target_of r) c.vars c.choices

      -- the source's outcome for some choices
      abbrev theirs : Case → List ℕ → Outcome
      theirs c ds = outcome m (source_of r) c.vars ds

      -- whether the first refines the second
      abbrev test : Case → List ℕ → Bool
      test c ds = outcome_refining m (ours c) (theirs c ds)

      -- the test of a case is exact
      test_refutes : (c : Case) → Inputs m (target_of r) c.vars → Choices m (target_of r) c.choices → T (refutes m r c) → Refutes m r c.vars c.choices
      test_refutes c given chosen t = record {
        codes = given;
        choices = chosen;
        none = λ ds h k. none_passes (test c) (source_choices m r) t ds (choices_listed ds h) (refines_test m (ours c) (theirs c ds) k);
      }

      -- and the other way round
      refutes_test : (c : Case) → Refutes m r c.vars c.choices → T (refutes m r c)
      refutes_test c h =
          ⊎_elim
          (λ t. t)
          (λ some. let (ds, a, t) = some in absurd (h.none ds (listed_choices ds a) (test_refines m (ours c) (theirs c ds) t)))
          (none_or_some (test c) (source_choices m r))

      -- a case that refutes is one of the cases
      refuting_listed : (c : Case) → Refutes m r c.vars c.choices → Listed c (cases m r)
      refuting_listed c h = parts_case c h.codes h.choices

      -- what the search finds is the first that refutes
      search_found : (c : Case) → first_refuting m r ≡ Some c → FirstRefutes m r c
      search_found c e =
          let (a, t, least) = first_some (refutes m r) ComesBefore (cases m r) c cases_rise e in
          let (given, chosen) = case_parts c a in
          record {
            refutes = test_refutes c given chosen t;
            none_before = λ d h k.
                ⊎_elim
                (λ same. let twice = subst (λ z. ComesBefore z c) same k in before_asym (c.vars ++ c.choices) (c.vars ++ c.choices) twice twice)
                (λ later. before_asym (c.vars ++ c.choices) (d.vars ++ d.choices) later k)
                (least d (refuting_listed d h) (refutes_test d h));
          }

      -- where it finds nothing, the target refines the source
      search_none : first_refuting m r ≡ None → Refines m (target_of r) (source_of r)
      search_none e = record {
        inputs = refl;
        each = λ ins cs given chosen.
            let c : Case = record { vars = ins; choices = cs } in
            ⊎_elim
            (λ t. absurd (first_none (refutes m r) (cases m r) e c (parts_case c given chosen) t))
            (λ some. let (ds, a, t) = some in (ds, listed_choices ds a, test_refines m (ours c) (theirs c ds) t))
            (none_or_some (test c) (source_choices m r));
      }

      -- where the target refines the source, it finds nothing
      refines_none : Refines m (target_of r) (source_of r) → first_refuting m r ≡ None
      refines_none refines = go (first_refuting m r) refl
        where
          go : (o : Option Case) → first_refuting m r ≡ o → o ≡ None
          go None e = refl
          go (Some c) e =
              let found = (search_found c e).refutes in
              let (ds, chosen, h) = refines.each c.vars c.choices found.codes found.choices in
              absurd (found.none ds chosen h)

      -- the first that refutes is found
      search_finds : (c : Case) → FirstRefutes m r c → first_refuting m r ≡ Some c
      search_finds c h = go (first_refuting m r) refl
        where
          go : (o : Option Case) → first_refuting m r ≡ o → o ≡ Some c
          go None e = absurd (first_none (refutes m r) (cases m r) e c (refuting_listed c h.refutes) (refutes_test c h.refutes))
          go (Some d) e =
              let (a, t, least) = first_some (refutes m r) ComesBefore (cases m r) d cases_rise e in
              ⊎_elim
              (λ same. ap Some (sym same))
              (λ later. absurd (h.none_before d (search_found d e).refutes later))
              (least c (refuting_listed c h.refutes) (refutes_test c h.refutes))

-- the search is exact
pub checking_exact : (m : Model) → Lawful m → CheckingExact m
checking_exact m law r = record {
  none = (search_none m r law, refines_none m r law);
  some = λ c. (search_found m r law c, search_finds m r law c);
  has = λ c. (case_parts m r c, λ h. parts_case m r law c h.0 h.1);
  rising = cases_rise m r;
  numbered = λ k l. let few = length-map (tuples (entries m r)) (as_case r) in get_d_map (as_case r) (tuples (entries m r)) k (as_case r []) [] (omega arith) ∙ ap (as_case r) (tuple_numbered (entries m r) k (omega arith));
  count =
      length-map (tuples (entries m r)) (as_case r)
      ∙ length_tuples_all r.variables (codes m) (replicate (freezes_in r.target) (settled_codes m))
      ∙ ap (λ n. n ^ r.variables * length (tuples (replicate (freezes_in r.target) (settled_codes m)))) (length_from 0 m.size)
      ∙ ap (λ n. m.size ^ r.variables * n) (length_tuples_one (freezes_in r.target) (settled_codes m));
}
