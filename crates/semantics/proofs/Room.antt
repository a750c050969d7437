-- How many instructions and free records there are, before and after a rewriting. Assumes nothing.
use Rattle.std.proofs.Common.{◌≡◌, ℕ, suc, ◌+◌, ◌≤◌, Bool, true, false, cond, eqb, ◌↔◌, List, [], ◌∷◌, ◌++◌, length, refl, ap, ⊎_elim, arith, length-append}
use mathlib.Core.Path.{subst⁻¹}
use lib.ListN.{length-map}
use Rattle.domain.specs.Model.{Model}
use Rattle.semantics.specs.Programs.{Placed, has, records}
use Rattle.semantics.specs.Rules.{Rule, WellMade, numbered, Match, Distinct, Fits, matches, removed, front, block}
use Rattle.semantics.specs.Cases.{from}
use Rattle.semantics.specs.Changes.{Loaded, freed, available, wanted, rewrite, ProperProgram, RoomExact}
use Rattle.semantics.proofs.Members.{either, same?, In, in_here, in_there, in_cases, not_in, out, stands_in, in_stands}
use Rattle.semantics.proofs.Splice.{spliced_cases}
use Rattle.semantics.proofs.Kept.{staying}
use Rattle.semantics.proofs.Listed.{length_from}
use Rattle.semantics.proofs.Numbers.{in_left, in_right, in_either, distinct_append, front_distinct, from_in, in_from, from_distinct, no_longer}
use Rattle.semantics.proofs.Convicted.{ordered_distinct}
use Rattle.semantics.proofs.Rewritten.{in_range}
use Rattle.semantics.proofs.Homes.{length_numbered}
use Rattle.semantics.proofs.Changes.{length_records, stay, gone_there, place_stays, stay_in, in_new, length_spliced, length_block, some_target, new_records}

-- a body without repetition, all but the last of a list
length_front : {A : Type 0} (xs : List A) → 1 ≤ length xs → suc (length (front xs)) ≡ length xs
length_front [] h = absurd (omega arith)
length_front (x ∷ []) h = refl
length_front (x ∷ y ∷ xs) h = ap suc (length_front (y ∷ xs) (omega arith))

-- two lists without repetition that have the same numbers are equally long
equally_long : (xs ys : List ℕ) → Distinct xs → Distinct ys → ((k : ℕ) → In k xs ↔ In k ys) → length xs ≡ length ys
equally_long xs ys d e same =
    let a = no_longer xs ys d (λ k. (same k).0) in
    let b = no_longer ys xs e (λ k. (same k).1) in
    omega arith

-- what is freed is added
length_freed : (xs ys : List ℕ) → length (freed xs ys) ≡ length xs + length ys
length_freed [] ys = omega arith
length_freed (x ∷ xs) ys = let e = length_freed xs (x ∷ ys) in omega arith

-- what stays of a body without repetition has none
staying_distinct : (gone : List ℕ) (at : ℕ) (xs : List Placed) → Distinct (records xs) → Distinct (records (staying gone at xs))
staying_distinct gone at [] d = tt
staying_distinct gone at (x ∷ xs) d = go (eqb x.at at) (has x.at gone) (staying_distinct gone at xs d.1)
  where
    later : In x.at (records (staying gone at xs)) → ⊥
    later h = let (i, s) = in_stands (staying gone at xs) x.at h in ⊎_elim (λ t. not_in x.at (records xs) d.0 (stands_in xs x.at i t.0)) (λ none. absurd none) (spliced_cases gone at [] xs x.at i s)

    go : (b c : Bool) → Distinct (records (staying gone at xs)) → Distinct (records (cond b ([] ++ staying gone at xs) (cond c (staying gone at xs) (x ∷ staying gone at xs))))
    go true c rest = rest
    go false true rest = rest
    go false false rest = (out x.at (records (staying gone at xs)) later, rest)

module _ (m : Model) (l : Loaded) (proper : ProperProgram m l) where
  -- no record of a body twice
  body_distinct : Distinct (records l.program.body)
  body_distinct = ordered_distinct m l.program.inputs [] l.program.body proper.formed.ordered

  -- each of the 64 records holds an instruction or is free
  pub all_placed : length l.program.body + length l.free ≡ 64
  all_placed =
      let same = equally_long (records l.program.body ++ l.free) (from 1 64)
      (distinct_append (records l.program.body) l.free body_distinct proper.distinct (λ k h f. not_in k (records l.program.body) ((proper.free k).0 f).2 h))
      (from_distinct 1 64)
      (λ k. (
        λ h. ⊎_elim
            (λ b. let (i, s) = in_stands l.program.body k b in let range = in_range m l.program.inputs [] l.program.body proper.formed.ordered k i s in in_from 1 64 k range.0 (omega arith))
            (λ f. let (low, high, n) = (proper.free k).0 f in in_from 1 64 k low (omega arith))
            (in_either k (records l.program.body) l.free h),
        λ h. let b = from_in 1 64 k h in ⊎_elim (in_left k (records l.program.body) l.free) (λ n. in_right k (records l.program.body) l.free ((proper.free k).1 (b.0, omega arith, n))) (either (has k (records l.program.body))),
      )) in
      omega (arith, length-append (records l.program.body) l.free, length_records l.program.body, length_from 1 64)

  module _ (r : Rule) (made : WellMade m r) (at : ℕ) (w : Match) (fits : Fits l.program r at w) (there : In at (records l.program.body)) where
    -- all source instructions but one go
    length_gone : suc (length (removed w r)) ≡ length r.source
    length_gone =
        let all = length-map (numbered 1 r.source) (λ s. w.record_of s.at) in
        let n = length_numbered 1 r.source in
        let some = made.source_formed.some in
        let front-is = length_front (matches w r) (omega arith) in
        omega arith

    -- what goes, the place and what stays are the whole body
    length_stay : length (stay m l proper r made at w fits there) + length r.source ≡ length l.program.body
    length_stay =
        let kept = records (stay m l proper r made at w fits there) in
        let gone = removed w r in
        let same = equally_long (at ∷ (gone ++ kept)) (records l.program.body) (
          out at (gone ++ kept) (λ h. ⊎_elim (place_stays m l proper r made at w fits there) (λ s. (stay_in m l proper r made at w fits there at s).1.0 refl) (in_either at gone kept h)),
          distinct_append gone kept (front_distinct (matches w r) fits.apart) kept_distinct (λ k g s. (stay_in m l proper r made at w fits there k s).1.1 g),
        )
        body_distinct
        (λ k. (
          λ h. ⊎_elim (λ e. subst⁻¹ (λ z. In z (records l.program.body)) e there) (λ t. ⊎_elim (gone_there m l proper r made at w fits there k) (λ s. (stay_in m l proper r made at w fits there k s).0) (in_either k gone kept t)) (in_cases k at (gone ++ kept) h),
          λ h. ⊎_elim (in_here k at (gone ++ kept)) (λ n. in_there k at (gone ++ kept) (⊎_elim (in_left k gone kept) (λ g. in_right k gone kept (in_new m l proper r made at w fits there [] k h n (not_in k gone g))) (either (has k gone)))) (same? k at),
        )) in
        omega (arith, length-append gone kept, length_records (stay m l proper r made at w fits there), length_records l.program.body, length_gone)
      where
        kept_distinct : Distinct (records (stay m l proper r made at w fits there))
        kept_distinct = staying_distinct (removed w r) at l.program.body body_distinct

    -- a rewriting puts the target in the source's stead
    pub length_rewritten : length (rewrite l r at w).program.body + length r.source ≡ length l.program.body + length r.target
    length_rewritten = omega (arith, length_stay, length_spliced m l proper r made at w fits there (block r w at (new_records m l proper r made at w fits there)), length_block m l proper r made at w fits there)

    -- 64 instructions suffice exactly when there are records for the target
    room_here : (length (rewrite l r at w).program.body ≤ 64) ↔ (wanted r ≤ length (available l r w))
    room_here =
        let some = some_target m l proper r made at w fits there in
        let new = length_rewritten in
        let placed = all_placed in
        let freed-is = length_freed (removed w r) l.free in
        let gone = length_gone in
        (λ h. omega arith, λ h. omega arith)

pub room_exact : (m : Model) → RoomExact m
room_exact m = room_here m
