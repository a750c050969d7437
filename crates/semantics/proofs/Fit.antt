-- What `fit` answers is right. Assumes nothing.
use Rattle.std.proofs.Common.{◌≡◌, ℕ, suc, ◌+◌, ◌<◌, ◌≤◌, Bool, true, false, cond, not, T, ◌⊎◌, List, [], ◌∷◌, map, length, sym, refl, ap, ◌∙◌, subst, arith}
use mathlib.Core.Path.{subst⁻¹}
use Rattle.domain.specs.Model.{Model}
use Rattle.semantics.specs.Programs.{Placed, Program, All, Readable, reads, has, records}
use Rattle.semantics.specs.Rules.{Rule, WellMade, numbered, Match, Stands, Distinct, matches, front, reads_one, any_reads, Fits}
use Rattle.semantics.specs.Fitting.{Pairwise, Named, Takes, Holds, Like, Taking, Points1To2, Points3To4, Point5, Points1To4, candidate, passes_1_2, passes_3_4, passes_5, matched, unfit, RightFit, FittingExact}
use Rattle.semantics.specs.declared.Operand.{Operand}
use Rattle.semantics.specs.declared.Operand.TheVariants.{Input, Record, Constant}
use Rattle.semantics.specs.declared.Instruction.{Instruction}
use Rattle.semantics.proofs.Members.{In, Each, each_from_all, all_from_each, stands_in, in_stands, all_weaker}
use Rattle.semantics.proofs.Operands.{readable_more}
use Rattle.semantics.proofs.Order.{before, in_before, reads_before}
use Rattle.semantics.proofs.Homes.{Within, numbered_within, length_numbered}
use Rattle.semantics.proofs.Points.{points_1_2, test_1_2, points_3_4, test_3_4, point_5, test_5, fits_points, points_fit}
use Rattle.semantics.proofs.Learned.{candidate_records, candidate_operands}

-- what holds of each pair, where R holds of the first
pairwise_weaker : (R : Operand → Type 0) (P Q : Operand → Operand → Type 0) → ((s o : Operand) → R s → P s o → Q s o) → (ss os : List Operand) → All R ss → Pairwise P ss os → Pairwise Q ss os
pairwise_weaker R P Q f [] [] a h = tt
pairwise_weaker R P Q f [] (o ∷ os) a h = absurd h
pairwise_weaker R P Q f (s ∷ ss) [] a h = absurd h
pairwise_weaker R P Q f (s ∷ ss) (o ∷ os) a h = (f s o a.0 h.0, pairwise_weaker R P Q f ss os a.1 h.1)

-- two matches with the same records for the source instructions have the same list of matches
matches_from : (w u : Match) (k : ℕ) (is : List Instruction) → ((j : ℕ) → k ≤ j → j < k + length is → u.record_of j ≡ w.record_of j) → map (λ s. w.record_of s.at) (numbered k is) ≡ map (λ s. u.record_of s.at) (numbered k is)
matches_from w u k [] same = refl
matches_from w u k (i ∷ is) same =
    let rest = matches_from w u (suc k) is (λ j low high. same j (omega arith) (omega arith)) in
    let here = same k (omega arith) (omega arith) in
    λ z. sym here z ∷ rest z

module _ (m : Model) (r : Rule) (made : WellMade m r) (w u : Match) (records-same : (j : ℕ) → 1 ≤ j → j ≤ length r.source → u.record_of j ≡ w.record_of j) where
  -- such matches have the same list of records
  pub matches_same : matches w r ≡ matches u r
  matches_same = matches_from w u 1 r.source (λ j low high. records-same j low (omega arith))

  -- an operand of the source reads its variables, its instructions and constants
  abbrev Own : Operand → Type 0
  Own o = Readable m r.variables (records (numbered 1 r.source)) o

  -- each source instruction reads such operands
  own_reads : Each (numbered 1 r.source) (λ j s. All Own (reads s))
  own_reads j s there = all_weaker (Readable m r.variables (records (before j (numbered 1 r.source)))) Own (readable_more m r.variables _ _ (in_before j (numbered 1 r.source))) (reads s) (reads_before m r.variables (numbered 1 r.source) made.source_formed.ordered j s there)

  -- a record of the source is a number up to its length
  within : (j : ℕ) → In j (records (numbered 1 r.source)) → Within (length r.source) j
  within j h = let (s, there) = in_stands (numbered 1 r.source) j h in numbered_within (length r.source) 1 r.source (omega arith) (omega arith) j s there

  -- so both matches have the same record for it
  record_same : (j : ℕ) → In j (records (numbered 1 r.source)) → u.record_of j ≡ w.record_of j
  record_same j h = let b = within j h in records-same j b.low b.high

  -- names agree alike
  named_same : (s o : Operand) → Own s → Named w s o → Named u s o
  named_same (Input v) o own h = tt
  named_same (Record j) o own h = h ∙ ap Record (sym (record_same j own))
  named_same (Constant c) o own h = h

  -- what holds of each matched instruction holds of it under the other match
  held_same : (P Q : Instruction → Instruction → Type 0) → ((s i : Instruction) → All Own (reads s) → P s i → Q s i) → (body : List Placed) →
      All (λ s. Holds body (w.record_of s.at) (P s.what)) (numbered 1 r.source) → All (λ s. Holds body (u.record_of s.at) (Q s.what)) (numbered 1 r.source)
  held_same P Q f body h =
      all_from_each (λ s. Holds body (u.record_of s.at) (Q s.what)) (numbered 1 r.source) (λ j s there.
      let (i, stands, p) = each_from_all (λ s. Holds body (w.record_of s.at) (P s.what)) (numbered 1 r.source) h j s there in
      (i, subst⁻¹ (λ z. Stands body z i) (record_same j (stands_in (numbered 1 r.source) j s there)) stands, f s i (own_reads j s there) p))

  -- such matches have points 1 and 2 alike
  pub same_1_2 : (p : Program) (at : ℕ) → Points1To2 p r at w → Points1To2 p r at u
  same_1_2 p at h = record {
    at_last = records-same (length r.source) some (omega arith) ∙ h.at_last;
    same = held_same (Like w) (Like u) (λ s i own like. (like.0, like.1, pairwise_weaker Own (Named w) (Named u) named_same (reads s) (reads i) own like.2)) p.body h.same;
  }
    where
      some : 1 ≤ length r.source
      some = omega (arith, length_numbered 1 r.source, made.source_formed.some)

  -- point 5 too
  pub same_5 : (p : Program) → Point5 p r w → Point5 p r u
  same_5 p h = record {
    unread = subst (λ l. All (λ x. T (has x.at l) ⊎ T (not (any_reads (front l) (reads x.what)))) p.body) matches_same h.unread;
    no_result = subst (λ l. T (not (has p.result (front l)))) matches_same h.no_result;
  }

  -- and points 3 and 4, where the variables take the same operands
  pub same_3_4 : ((v : ℕ) → v < r.variables → u.operand_of v ≡ w.operand_of v) → (p : Program) → Points3To4 p r w → Points3To4 p r u
  same_3_4 operands_same p h = record {
    taken = held_same (Taking w) (Taking u) (λ s i own t. pairwise_weaker Own (Takes w) (Takes u) takes_same (reads s) (reads i) own t) p.body h.taken;
    outside = λ v l. subst⁻¹ (λ o. T (not (reads_one (matches u r) o))) (operands_same v l) (subst (λ ms. T (not (reads_one ms (w.operand_of v)))) matches_same (h.outside v l));
    apart = subst Distinct matches_same h.apart;
  }
    where
      takes_same : (s o : Operand) → Own s → Takes w s o → Takes u s o
      takes_same (Input v) o own t = t ∙ sym (operands_same v own)
      takes_same (Record j) o own t = tt
      takes_same (Constant c) o own t = tt

-- answers told apart
unfit_number : (a b : ℕ) → unfit a ≡ unfit b → a ≡ b
unfit_number a b e = cc

-- a refusal is no match
not_matched : (w : Match) (k : ℕ) → unfit k ≡ matched w → ⊥
not_matched w k e = let z : ◌≡◌ {A = ℕ} 0 1 = cc in omega arith

-- a match is no refusal
not_unfit : (w : Match) (k : ℕ) → matched w ≡ unfit k → ⊥
not_unfit w k e = let z : ◌≡◌ {A = ℕ} 0 1 = cc in omega arith

-- the answer of `fit` is right
pub fitting_exact : (m : Model) → FittingExact m
fitting_exact m r made p formed at = go (passes_1_2 p r at u) (passes_3_4 p r u) (passes_5 p r u) (points_1_2 m p formed r u at) (points_3_4 m p formed r u) (point_5 m p formed r u) first second third
  where
    u : Match
    u = candidate p r at

    -- a match with the points has them tested
    first : (w : Match) → Points1To2 p r at w → T (passes_1_2 p r at u)
    first w h = test_1_2 m p formed r u at (same_1_2 m r made w u (candidate_records m r made p formed at w h) p at h)

    second : (w : Match) → Points1To4 p r at w → T (passes_3_4 p r u)
    second w (h, k) = test_3_4 m p formed r u (same_3_4 m r made w u (candidate_records m r made p formed at w h) (candidate_operands m r made p formed at w h k) p k)

    third : (w : Match) → Fits p r at w → T (passes_5 p r u)
    third w fits = let (h, k, l) = fits_points m p formed r w at fits in test_5 m p formed r u (same_5 m r made w u (candidate_records m r made p formed at w h) p l)

    one_two : (w : Match) → Fits p r at w → Points1To2 p r at w
    one_two w fits = (fits_points m p formed r w at fits).0

    one_four : (w : Match) → Fits p r at w → Points1To4 p r at w
    one_four w fits = let (h, k, l) = fits_points m p formed r w at fits in (h, k)

    both_ways : (w : Match) → (Fits p r at w → Points1To2 p r at w × Points3To4 p r w × Point5 p r w) × (Points1To2 p r at w × Points3To4 p r w × Point5 p r w → Fits p r at w)
    both_ways w = (fits_points m p formed r w at, λ t. points_fit m p formed r w at t.0 t.1 t.2)

    go : (a b c : Bool) → (T a → Points1To2 p r at u) → (T b → Points3To4 p r u) → (T c → Point5 p r u) → ((w : Match) → Points1To2 p r at w → T a) → ((w : Match) → Points1To4 p r at w → T b) → ((w : Match) → Fits p r at w → T c) →
        RightFit p r at (cond a (cond b (cond c (matched u) (unfit 18)) (unfit 17)) (unfit 16))
    go false b c one three five first second third = record {
      fits = λ w e. absurd (not_matched w 16 e);
      finds = λ w h. absurd (first w (one_two w h));
      sixteen = (λ e w h. first w h, λ n. refl);
      seventeen = (λ e. absurd (let z = unfit_number 16 17 e in omega arith), λ n. absurd (first n.0.0 n.0.1));
      eighteen = (λ e. absurd (let z = unfit_number 16 18 e in omega arith), λ n. absurd (first n.0.0 n.0.1.0));
      points = both_ways;
    }
    go true false c one three five first second third = record {
      fits = λ w e. absurd (not_matched w 17 e);
      finds = λ w h. absurd (second w (one_four w h));
      sixteen = (λ e. absurd (let z = unfit_number 17 16 e in omega arith), λ n. absurd (n u (one tt)));
      seventeen = (λ e. ((u, one tt), second), λ n. refl);
      eighteen = (λ e. absurd (let z = unfit_number 17 18 e in omega arith), λ n. absurd (second n.0.0 n.0.1));
      points = both_ways;
    }
    go true true false one three five first second third = record {
      fits = λ w e. absurd (not_matched w 18 e);
      finds = λ w h. absurd (third w h);
      sixteen = (λ e. absurd (let z = unfit_number 18 16 e in omega arith), λ n. absurd (n u (one tt)));
      seventeen = (λ e. absurd (let z = unfit_number 18 17 e in omega arith), λ n. absurd (n.1 u (one tt, three tt)));
      eighteen = (λ e. ((u, (one tt, three tt)), third), λ n. refl);
      points = both_ways;
    }
    go true true true one three five first second third = record {
      fits = λ w e. subst (Fits p r at) (same_answer w e) whole;
      finds = λ w h. (u, refl, record { records = candidate_records m r made p formed at w (one_two w h); operands = candidate_operands m r made p formed at w (one_two w h) (one_four w h).1 });
      sixteen = (λ e. absurd (not_unfit u 16 e), λ n. absurd (n u (one tt)));
      seventeen = (λ e. absurd (not_unfit u 17 e), λ n. absurd (n.1 u (one tt, three tt)));
      eighteen = (λ e. absurd (not_unfit u 18 e), λ n. absurd (n.1 u whole));
      points = both_ways;
    }
      where
        whole : Fits p r at u
        whole = points_fit m p formed r u at (one tt) (three tt) (five tt)

        same_answer : (w : Match) → matched u ≡ matched w → u ≡ w
        same_answer w e = cc
