-- Rewriting a program with its free records: there are new records where 64 instructions suffice, and each record stays in one place. Assumes nothing.
use Rattle.std.proofs.Common.{◌≡◌, ℕ, suc, ◌+◌, ◌<◌, ◌≤◌, not, T, eqb, List, [], ◌∷◌, ◌++◌, length, get_or, take, drop, sym, ap, ◌∙◌, subst, inl, inr, ⊎_elim, arith, eqb→eq, length-append, length-take}
use mathlib.Core.Path.{subst⁻¹}
use lib.Dec.{not_T}
use lib.ListN.{length-map}
use Rattle.domain.specs.Model.{Model, Lawful}
use Rattle.semantics.specs.Programs.{Placed, Refines, has, records}
use Rattle.semantics.specs.Rules.{Rule, WellMade, numbered, source_of, target_of, Match, Matched, Distinct, matches, removed, Fits, block, spliced, Fresh}
use Rattle.semantics.specs.Cases.{from}
use Rattle.semantics.specs.Changes.{Loaded, available, wanted, rewrite, ProperProgram}
use Rattle.semantics.proofs.Members.{either, same?, In, in_here, in_there, in_cases, not_in, out, each_from_all, stands_in, in_stands, all_from_in, front_in}
use Rattle.semantics.proofs.Order.{before}
use Rattle.semantics.proofs.Splice.{spliced_cases, spliced_keeps, spliced_new}
use Rattle.semantics.proofs.Kept.{staying, behind, spliced_parts}
use Rattle.semantics.proofs.Matches.{closes, found_by, last_stays}
use Rattle.semantics.proofs.Homes.{length_numbered, numbered_has, home_new, stands_home}
use Rattle.semantics.proofs.Fitting.{Fitting, targets, home_of, new_block}
use Rattle.semantics.proofs.Rewritten.{in_range, place_new, block_is_new, formed_new}
use Rattle.semantics.proofs.Contextual.{contextual}
use Rattle.semantics.proofs.Numbers.{in_left, in_right, taken_apart, in_taken, in_dropped, taken_or_dropped, in_freed, freed_in, freed_distinct, front_distinct, from_in, from_distinct, no_longer}
use Rattle.semantics.proofs.Listed.{length_from}

-- a place of a list holds each of its numbers
place_of : (xs : List ℕ) (k : ℕ) → In k xs → (a : ℕ) × (a < length xs) × (get_or xs a 0 ≡ k)
place_of [] k h = absurd h
place_of (x ∷ xs) k h =
    ⊎_elim
    (λ e. (0, omega arith, sym e))
    (λ t. let (a, l, e) = place_of xs k t in (suc a, omega arith, e))
    (in_cases k x xs h)

-- as many records as instructions
pub length_records : (xs : List Placed) → length (records xs) ≡ length xs
length_records xs = length-map xs (λ x. x.at)

module _ (m : Model) (l : Loaded) (proper : ProperProgram m l) (r : Rule) (made : WellMade m r) (at : ℕ) (w : Match) (fits : Fits l.program r at w) (there : In at (records l.program.body)) where
  -- the old body
  abbrev pub body : List Placed
  body = l.program.body

  -- the records of the matches but the last
  abbrev pub gone : List ℕ
  gone = removed w r

  -- what stays of the body
  abbrev pub stay : List Placed
  stay = staying gone at body

  -- the records that can be taken
  abbrev pub av : List ℕ
  av = available l r w

  -- a match stands in the body
  match_there : (k : ℕ) → In k (matches w r) → In k (records body)
  match_there k h =
      let (j, s, stands, e) = found_by w at (numbered 1 r.source) k h in
      let (i, here, alike) = each_from_all (Matched w body) (numbered 1 r.source) fits.same j s stands in
      subst (λ z. In z (records body)) e (stands_in body (w.record_of j) i here)

  -- so does what goes
  pub gone_there : (k : ℕ) → In k gone → In k (records body)
  gone_there k h = match_there k (front_in (matches w r) k h)

  -- the place does not go
  pub place_stays : In at gone → ⊥
  place_stays = last_stays w at (numbered 1 r.source) (closes w at r.source made.source_formed.some fits.at_last) fits.apart

  -- what stays is of the old body, not the place, and does not go
  pub stay_in : (k : ℕ) → In k (records stay) → In k (records body) × ((k ≡ at → ⊥) × (In k gone → ⊥))
  stay_in k h =
      let (i, s) = in_stands stay k h in
      ⊎_elim (λ t. (stands_in body k i t.0, t.1)) (λ none. absurd none) (spliced_cases gone at [] body k i s)

  -- and the other way round
  pub in_new : (new : List Placed) (k : ℕ) → In k (records body) → (k ≡ at → ⊥) → (In k gone → ⊥) → In k (records (spliced gone at new body))
  in_new new k h n g = let (i, s) = in_stands body k h in stands_in (spliced gone at new body) k i (spliced_keeps gone at new body k i s (n, g))

  -- a record is available exactly when nothing stays in it and it is not the place
  pub available_in : (k : ℕ) → In k av → (1 ≤ k) × (k ≤ 64) × (In k (records stay) → ⊥) × (k ≡ at → ⊥)
  available_in k h = ⊎_elim matched free (freed_in gone l.free k h)
    where
      matched : In k gone → (1 ≤ k) × (k ≤ 64) × (In k (records stay) → ⊥) × (k ≡ at → ⊥)
      matched g =
          let (i, s) = in_stands body k (gone_there k g) in
          let b = in_range m l.program.inputs [] body proper.formed.ordered k i s in
          (b.0, b.1, λ t. (stay_in k t).1.1 g, λ e. place_stays (subst (λ z. In z gone) e g))

      free : In k l.free → (1 ≤ k) × (k ≤ 64) × (In k (records stay) → ⊥) × (k ≡ at → ⊥)
      free f =
          let (low, high, n) = (proper.free k).0 f in
          (low, high, λ t. not_in k (records body) n (stay_in k t).0, λ e. not_in k (records body) n (subst⁻¹ (λ z. In z (records body)) e there))

  -- and the other way round
  pub in_available : (k : ℕ) → 1 ≤ k → k ≤ 64 → (In k (records stay) → ⊥) → (k ≡ at → ⊥) → In k av
  in_available k low high n other =
      in_freed gone l.free k
      (⊎_elim
      (λ h. ⊎_elim inl (λ g. absurd (n (in_new [] k h other (not_in k gone g)))) (either (has k gone)))
      (λ h. inr ((proper.free k).1 (low, high, h)))
      (either (has k (records body))))

  -- no record is available twice
  available_distinct : Distinct av
  available_distinct = freed_distinct gone l.free (front_distinct (matches w r) fits.apart) proper.distinct (λ k g f. not_in k (records body) ((proper.free k).0 f).2 (gone_there k g))

  -- each of the 64 records stays, is available or is the place
  covered : 64 ≤ suc (length stay + length av)
  covered =
      let all = at ∷ (records stay ++ av) in
      let most = no_longer (from 1 64) all (from_distinct 1 64) (λ k h. let b = from_in 1 64 k h in in_all k b.0 (omega arith)) in
      omega (arith, length_from 1 64, length-append (records stay) av, length_records stay)
    where
      in_all : (k : ℕ) → 1 ≤ k → k ≤ 64 → In k (at ∷ (records stay ++ av))
      in_all k low high =
          ⊎_elim
          (in_here k at (records stay ++ av))
          (λ other. in_there k at (records stay ++ av) (⊎_elim
          (in_left k (records stay) av)
          (λ n. in_right k (records stay) av (in_available k low high (not_in k (records stay) n) other))
          (either (has k (records stay)))))
          (same? k at)

  -- the new body has what stays and the target
  pub length_spliced : (new : List Placed) → length (spliced gone at new body) ≡ length stay + length new
  length_spliced new =
      let parts = ap length (spliced_parts gone at m l.program.inputs new [] body proper.formed.ordered there) in
      let none = ap length (spliced_parts gone at m l.program.inputs [] [] body proper.formed.ordered there) in
      let upper = staying gone at (before at body) in
      let lower = staying gone at (behind at body) in
      omega (arith, length-append upper (new ++ lower), length-append new lower, length-append upper lower)

  -- the records that the target takes
  abbrev pub new_records : List ℕ
  new_records = take (wanted r) av

  -- the new instructions are as many as the target's
  pub length_block : length (block r w at new_records) ≡ length r.target
  length_block = length-map (numbered 1 r.target) _ ∙ length_numbered 1 r.target

  -- a target has an instruction
  pub some_target : 1 ≤ length r.target
  some_target = omega (arith, made.target_formed.some, length_numbered 1 r.target)

  module _ (few : length (rewrite l r at w).program.body ≤ 64) where
    -- 64 instructions suffice only if there are records for them
    enough_room : wanted r ≤ length av
    enough_room = let s = some_target in omega (arith, covered, length_spliced (block r w at new_records), length_block)

    -- so all that are wanted are taken
    length_new : length new_records ≡ wanted r
    length_new = let e = enough_room in omega (arith, length-take (wanted r) av)

    -- so there are records for the target
    pub new_free : Fresh l.program r at w new_records
    new_free = record {
      enough = let s = some_target in omega (arith, length_new);
      distinct = (taken_apart (wanted r) av available_distinct).0;
      within = all_from_in (λ k. (1 ≤ k) × (k ≤ 64)) new_records (λ k h. let (low, high, n, other) = available_in k (in_taken (wanted r) av k h) in (low, high));
      free = all_from_in (λ k. T (not (has k (records stay))) × T (not (eqb k at))) new_records (λ k h.
          let (low, high, n, other) = available_in k (in_taken (wanted r) av k h) in
          (out k (records stay) n, not_T (eqb k at) (λ t. other (eqb→eq k at t))));
    }

    -- the rewriting
    abbrev fitting : Fitting m
    fitting = record { rule = r; made = made; old = l.program; formed = proper.formed; at = at; match = w; fits = fits; fresh = new_records; free = new_free }

    -- each new record holds an instruction
    new_there : (k : ℕ) → In k new_records → In k (records (new_block fitting))
    new_there k h =
        let (a, small, e) = place_of new_records k h in
        let n = length r.target in
        let many = new_free.enough in
        let (t, stands) = in_stands (targets fitting) (suc a) (numbered_has 1 r.target (suc a) (omega arith) (omega arith)) in
        let (i, here, alike) = stands_home w (home_of fitting) (targets fitting) (suc a) t stands in
        let home-is : home_of fitting (suc a) ≡ k = home_new new_records at n many (suc a) (λ s. omega arith) ∙ ap (λ z. get_or new_records z 0) (omega arith) ∙ e in
        subst (λ z. In z (records (new_block fitting))) home-is (stands_in (new_block fitting) (home_of fitting (suc a)) i here)

    -- a new instruction stands in the new body
    block_there : (k : ℕ) → In k (records (new_block fitting)) → In k (records (rewrite l r at w).program.body)
    block_there k h = let (i, s) = in_stands (new_block fitting) k h in stands_in (rewrite l r at w).program.body k i (spliced_new gone at (new_block fitting) body there k i s)

    -- what is left free is free
    left_free : (k : ℕ) → In k (drop (wanted r) av) → (1 ≤ k) × (k ≤ 64) × T (not (has k (records (rewrite l r at w).program.body)))
    left_free k h =
        let (low, high, n, other) = available_in k (in_dropped (wanted r) av k h) in (
          low,
          high,
          out k (records (rewrite l r at w).program.body) (λ t.
              let (i, s) = in_stands (rewrite l r at w).program.body k t in
              ⊎_elim
              (λ old. n (in_new [] k (stands_in body k i old.0) old.1.0 old.1.1))
              (λ new. ⊎_elim other (λ f. (taken_apart (wanted r) av available_distinct).2 k f h) (block_is_new fitting k (stands_in (new_block fitting) k i new)))
              (spliced_cases gone at (new_block fitting) body k i s)),
        )

    -- and the other way round
    free_left : (k : ℕ) → (1 ≤ k) × (k ≤ 64) × T (not (has k (records (rewrite l r at w).program.body))) → In k (drop (wanted r) av)
    free_left k (low, high, n) =
        ⊎_elim
        (λ t. absurd (no (block_there k (new_there k t))))
        (λ t. t)
        (taken_or_dropped (wanted r) av k (in_available k low high
        (λ s. let (h, kept) = stay_in k s in no (in_new (new_block fitting) k h kept.0 kept.1))
        (λ e. no (block_there k (subst⁻¹ (λ z. In z (records (new_block fitting))) e (place_new fitting))))))
      where
        no : In k (records (rewrite l r at w).program.body) → ⊥
        no = not_in k (records (rewrite l r at w).program.body) n

    -- the program and its free records are proper again
    pub rewrite_proper : ProperProgram m (rewrite l r at w)
    rewrite_proper = record {
      formed = formed_new fitting few;
      distinct = (taken_apart (wanted r) av available_distinct).1;
      free = λ k. (left_free k, free_left k);
    }

    -- and it refines the former
    pub rewrite_refines : Lawful m → Refines m (target_of r) (source_of r) → Refines m (rewrite l r at w).program l.program
    rewrite_refines law refines = contextual m law r made refines l.program proper.formed at w fits new_records new_free
