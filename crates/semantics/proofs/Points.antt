-- The points of fitting: as tests, and together. Assumes nothing.
use Rattle.std.proofs.Common.{◌≡◌, ℕ, Bool, not, ◌&&◌, ◌||◌, T, eqb, ◌⊎◌, List, [], ◌∷◌, length, ap, subst, eqb→eq}
use mathlib.Core.Path.{subst⁻¹}
use Rattle.domain.specs.Model.{Model}
use Rattle.semantics.specs.Programs.{Placed, Program, Formed, All, all, reads, has}
use Rattle.semantics.specs.Rules.{Rule, numbered, Match, Agree, Agrees, Matched, Stands, matches, removed, reads_one, any_reads, Fits}
use Rattle.semantics.specs.Fitting.{Pairwise, Named, Takes, Holds, Like, Taking, Points1To2, Points3To4, Point5, look, pairwise, named, takes, passes, like, taking, all_below, distinct, passes_1_2, passes_3_4, passes_5}
use Rattle.vocabulary.specs.Names.{number_of}
use Rattle.semantics.specs.declared.Operand.{Operand}
use Rattle.semantics.specs.declared.Operand.TheVariants.{Input, Record, Constant}
use Rattle.semantics.specs.declared.Instruction.{Instruction}
use Rattle.semantics.proofs.Members.{same_eqb, either_passes}
use Rattle.semantics.proofs.Reflect.{both, and_both, or_one, all_holds, holds_all, below_holds, holds_below, distinct_holds, holds_distinct, same_operand_holds, holds_same_operand, same_operation_holds, holds_same_operation, pairwise_holds, holds_pairwise}
use Rattle.semantics.proofs.Looked.{look_stands, stands_look, stands_once, passes_some}

-- names and constants
named_holds : (w : Match) (s o : Operand) → T (named w s o) → Named w s o
named_holds w (Input v) o t = tt
named_holds w (Record j) o t = same_operand_holds o _ t
named_holds w (Constant c) o t = same_operand_holds o _ t

-- and the other way round
holds_named : (w : Match) (s o : Operand) → Named w s o → T (named w s o)
holds_named w (Input v) o t = tt
holds_named w (Record j) o t = holds_same_operand o _ t
holds_named w (Constant c) o t = holds_same_operand o _ t

-- variables
takes_holds : (w : Match) (s o : Operand) → T (takes w s o) → Takes w s o
takes_holds w (Input v) o t = same_operand_holds o _ t
takes_holds w (Record j) o t = tt
takes_holds w (Constant c) o t = tt

-- and the other way round
holds_takes : (w : Match) (s o : Operand) → Takes w s o → T (takes w s o)
holds_takes w (Input v) o t = holds_same_operand o _ t
holds_takes w (Record j) o t = tt
holds_takes w (Constant c) o t = tt

-- one instruction against another
like_holds : (w : Match) (s i : Instruction) → T (like w s i) → Like w s i
like_holds w s i t =
    let (a, b) = both (eqb (number_of i.operation) (number_of s.operation)) (eqb i.marks.bits s.marks.bits && pairwise (named w) (reads s) (reads i)) t in
    let (c, d) = both (eqb i.marks.bits s.marks.bits) (pairwise (named w) (reads s) (reads i)) b in
    (same_operation_holds _ _ a, ap (λ n. record { bits = n }) (eqb→eq i.marks.bits s.marks.bits c), pairwise_holds (named w) (Named w) (named_holds w) (reads s) (reads i) d)

-- and the other way round
holds_like : (w : Match) (s i : Instruction) → Like w s i → T (like w s i)
holds_like w s i (a, b, c) =
    and_both (eqb (number_of i.operation) (number_of s.operation)) _ (holds_same_operation _ _ a)
    (and_both (eqb i.marks.bits s.marks.bits) _ (same_eqb i.marks.bits s.marks.bits (ap (λ k. k.bits) b)) (holds_pairwise (named w) (Named w) (holds_named w) (reads s) (reads i) c))

-- its variables
taking_holds : (w : Match) (s i : Instruction) → T (taking w s i) → Taking w s i
taking_holds w s i t = pairwise_holds (takes w) (Takes w) (takes_holds w) (reads s) (reads i) t

-- and the other way round
holds_taking : (w : Match) (s i : Instruction) → Taking w s i → T (taking w s i)
holds_taking w s i t = holds_pairwise (takes w) (Takes w) (holds_takes w) (reads s) (reads i) t

-- names and constants on one side, variables on the other
apart_agree : (w : Match) (s o : Operand) → Agrees w s o → Named w s o × Takes w s o
apart_agree w (Input v) o a = (tt, a)
apart_agree w (Record j) o a = (a, tt)
apart_agree w (Constant c) o a = (a, tt)

-- and together again
join_agree : (w : Match) (s o : Operand) → Named w s o → Takes w s o → Agrees w s o
join_agree w (Input v) o a b = b
join_agree w (Record j) o a b = a
join_agree w (Constant c) o a b = a

-- the same for lists of operands
agree_parts : (w : Match) (ss os : List Operand) → Agree w ss os → Pairwise (Named w) ss os × Pairwise (Takes w) ss os
agree_parts w [] [] a = (tt, tt)
agree_parts w [] (o ∷ os) a = absurd a
agree_parts w (s ∷ ss) [] a = absurd a
agree_parts w (s ∷ ss) (o ∷ os) a =
    let (n, t) = apart_agree w s o a.0 in
    let (ns, ts) = agree_parts w ss os a.1 in
    ((n, ns), (t, ts))

-- and together again
agree_whole : (w : Match) (ss os : List Operand) → Pairwise (Named w) ss os → Pairwise (Takes w) ss os → Agree w ss os
agree_whole w [] [] a b = tt
agree_whole w [] (o ∷ os) a b = absurd a
agree_whole w (s ∷ ss) [] a b = absurd a
agree_whole w (s ∷ ss) (o ∷ os) a b = (join_agree w s o a.0 b.0, agree_whole w ss os a.1 b.1)

module _ (m : Model) (p : Program) (formed : Formed m p) where
  -- a test of the instruction in a record
  held : (t : Instruction → Bool) (P : Instruction → Type 0) → ((i : Instruction) → T (t i) → P i) → (q : ℕ) → T (passes t (look p.body q)) → Holds p.body q P
  held t P f q h = let (i, e, g) = passes_some t (look p.body q) h in (i, look_stands p.body q i e, f i g)

  -- and the other way round
  hold : (t : Instruction → Bool) (P : Instruction → Type 0) → ((i : Instruction) → P i → T (t i)) → (q : ℕ) → Holds p.body q P → T (passes t (look p.body q))
  hold t P f q (i, s, h) = subst⁻¹ (λ o. T (passes t o)) (stands_look m p.inputs [] p.body formed.ordered q i s) (f i h)

  module _ (r : Rule) (w : Match) where
    -- the tests are the points
    pub points_1_2 : (at : ℕ) → T (passes_1_2 p r at w) → Points1To2 p r at w
    points_1_2 at t =
        let (a, b) = both (eqb (w.record_of (length r.source)) at) (all (λ s. passes (like w s.what) (look p.body (w.record_of s.at))) (numbered 1 r.source)) t in
        record {
          at_last = eqb→eq (w.record_of (length r.source)) at a;
          same = all_holds (λ (s : Placed). passes (like w s.what) (look p.body (w.record_of s.at))) (λ s. Holds p.body (w.record_of s.at) (Like w s.what)) (λ s. held (like w s.what) (Like w s.what) (like_holds w s.what) (w.record_of s.at)) (numbered 1 r.source) b;
        }

    -- and the other way round
    pub test_1_2 : (at : ℕ) → Points1To2 p r at w → T (passes_1_2 p r at w)
    test_1_2 at h =
        and_both (eqb (w.record_of (length r.source)) at) _ (same_eqb (w.record_of (length r.source)) at h.at_last)
        (holds_all (λ (s : Placed). passes (like w s.what) (look p.body (w.record_of s.at))) (λ s. Holds p.body (w.record_of s.at) (Like w s.what)) (λ s. hold (like w s.what) (Like w s.what) (holds_like w s.what) (w.record_of s.at)) (numbered 1 r.source) h.same)

    -- points 3 and 4
    pub points_3_4 : T (passes_3_4 p r w) → Points3To4 p r w
    points_3_4 t =
        let (a, b) = both (all (λ s. passes (taking w s.what) (look p.body (w.record_of s.at))) (numbered 1 r.source)) _ t in
        let (c, d) = both (all_below r.variables (λ v. not (reads_one (matches w r) (w.operand_of v)))) (distinct (matches w r)) b in
        record {
          taken = all_holds (λ (s : Placed). passes (taking w s.what) (look p.body (w.record_of s.at))) (λ s. Holds p.body (w.record_of s.at) (Taking w s.what)) (λ s. held (taking w s.what) (Taking w s.what) (taking_holds w s.what) (w.record_of s.at)) (numbered 1 r.source) a;
          outside = below_holds r.variables (λ v. not (reads_one (matches w r) (w.operand_of v))) c;
          apart = distinct_holds (matches w r) d;
        }

    -- and the other way round
    pub test_3_4 : Points3To4 p r w → T (passes_3_4 p r w)
    test_3_4 h =
        and_both (all (λ s. passes (taking w s.what) (look p.body (w.record_of s.at))) (numbered 1 r.source)) _
        (holds_all (λ (s : Placed). passes (taking w s.what) (look p.body (w.record_of s.at))) (λ s. Holds p.body (w.record_of s.at) (Taking w s.what)) (λ s. hold (taking w s.what) (Taking w s.what) (holds_taking w s.what) (w.record_of s.at)) (numbered 1 r.source) h.taken)
        (and_both (all_below r.variables (λ v. not (reads_one (matches w r) (w.operand_of v)))) (distinct (matches w r)) (holds_below r.variables (λ v. not (reads_one (matches w r) (w.operand_of v))) h.outside) (holds_distinct (matches w r) h.apart))

    -- point 5
    pub point_5 : T (passes_5 p r w) → Point5 p r w
    point_5 t =
        let (a, b) = both (all (λ x. has x.at (matches w r) || not (any_reads (removed w r) (reads x.what))) p.body) (not (has p.result (removed w r))) t in
        record {
          unread = all_holds (λ (x : Placed). has x.at (matches w r) || not (any_reads (removed w r) (reads x.what))) (λ x. T (has x.at (matches w r)) ⊎ T (not (any_reads (removed w r) (reads x.what)))) (λ x. either_passes (has x.at (matches w r)) _) p.body a;
          no_result = b;
        }

    -- and the other way round
    pub test_5 : Point5 p r w → T (passes_5 p r w)
    test_5 h =
        and_both (all (λ x. has x.at (matches w r) || not (any_reads (removed w r) (reads x.what))) p.body) (not (has p.result (removed w r)))
        (holds_all (λ (x : Placed). has x.at (matches w r) || not (any_reads (removed w r) (reads x.what))) (λ x. T (has x.at (matches w r)) ⊎ T (not (any_reads (removed w r) (reads x.what)))) (λ x. or_one (has x.at (matches w r)) _) p.body h.unread)
        h.no_result

    -- an instruction matched in all points is matched in points 1 and 2 and in points 3 and 4
    matched_parts : (ss : List Placed) → All (Matched w p.body) ss → All (λ s. Holds p.body (w.record_of s.at) (Like w s.what)) ss × All (λ s. Holds p.body (w.record_of s.at) (Taking w s.what)) ss
    matched_parts [] a = (tt, tt)
    matched_parts (s ∷ ss) a =
        let (i, there, op, marks, agree) = flat a.0 in
        let (n, t) = agree_parts w (reads s.what) (reads i) agree in
        let (ns, ts) = matched_parts ss a.1 in
        (((i, there, (op, marks, n)), ns), ((i, there, t), ts))
      where
        flat : Matched w p.body s → (i : Instruction) × Stands p.body (w.record_of s.at) i × (i.operation ≡ s.what.operation) × (i.marks ≡ s.what.marks) × Agree w (reads s.what) (reads i)
        flat (i, there, alike) = (i, there, alike.0, alike.1, alike.2)

    -- and together again, since one instruction stands in a record
    matched_whole : (ss : List Placed) → All (λ s. Holds p.body (w.record_of s.at) (Like w s.what)) ss → All (λ s. Holds p.body (w.record_of s.at) (Taking w s.what)) ss → All (Matched w p.body) ss
    matched_whole [] a b = tt
    matched_whole (s ∷ ss) a b = (join a.0 b.0, matched_whole ss a.1 b.1)
      where
        join : Holds p.body (w.record_of s.at) (Like w s.what) → Holds p.body (w.record_of s.at) (Taking w s.what) → Matched w p.body s
        join (i, there, like) (j, here, taking) =
            let same = stands_once m p.inputs [] p.body formed.ordered (w.record_of s.at) j i here there in
            (i, there, (like.0, like.1, agree_whole w (reads s.what) (reads i) like.2 (subst (λ z. Taking w s.what z) same taking)))

    -- the five points together
    pub fits_points : (at : ℕ) → Fits p r at w → Points1To2 p r at w × Points3To4 p r w × Point5 p r w
    fits_points at h =
        let (names, variables) = matched_parts (numbered 1 r.source) h.same in (
          record { at_last = h.at_last; same = names },
          record { taken = variables; outside = h.outside; apart = h.apart },
          record { unread = h.unread; no_result = h.no_result },
        )

    -- and the other way round
    pub points_fit : (at : ℕ) → Points1To2 p r at w → Points3To4 p r w → Point5 p r w → Fits p r at w
    points_fit at a b c = record {
      at_last = a.at_last;
      same = matched_whole (numbered 1 r.source) a.same b.taken;
      outside = b.outside;
      apart = b.apart;
      unread = c.unread;
      no_result = c.no_result;
    }
