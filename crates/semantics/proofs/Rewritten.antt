-- A program rewritten where a rule fits is again a program. Assumes nothing.
use Rattle.std.proofs.Common.{◌≡◌, ℕ, ◌≤◌, eqb, ◌⊎◌, List, [], ◌∷◌, length, refl, subst, inl, inr, ⊎_elim, arith, T_not}
use mathlib.Core.Path.{subst⁻¹}
use Rattle.domain.specs.Model.{Model}
use Rattle.semantics.specs.Programs.{Placed, Formed, records, Readable, Ordered}
use Rattle.semantics.specs.Rules.{Stands, StaysFormed}
use Rattle.semantics.specs.declared.Instruction.{Instruction}
use Rattle.semantics.proofs.Members.{same_eqb, same?, In, in_first, in_there, in_cases, not_in, Each, stands_in, in_stands, all_in}
use Rattle.semantics.proofs.Order.{later_apart, ordered_before, stands_before}
use Rattle.semantics.proofs.Splice.{spliced_cases, spliced_keeps, spliced_new}
use Rattle.semantics.proofs.Kept.{after, after_old, after_new, after_cases, ordered_append, behind, stands_behind, ordered_behind, staying, spliced_parts, staying_ordered}
use Rattle.semantics.proofs.Homes.{Within, numbered_within, numbered_has, home_last, home_cases, home_apart, stands_home, home_stands, home_ordered}
use Rattle.semantics.proofs.Fitting.{Fitting, targets, gone, upper, home_of, new_block, new, Stays, place, unread, variable_holds}

pub in_range : (m : Model) (n : ℕ) (e : List ℕ) (xs : List Placed) → Ordered m n e xs → Each xs (λ r i. (1 ≤ r) × (r ≤ 64))
in_range m n e [] o r i s = absurd s
in_range m n e (x ∷ xs) o r i (inl a) = subst (λ z. (1 ≤ z) × (z ≤ 64)) a.0 (o.0, o.1)
in_range m n e (x ∷ xs) o r i (inr s) = in_range m n (x.at ∷ e) xs o.4 r i s

some_there : (k : ℕ) (xs : List Placed) → In k (records xs) → 1 ≤ length xs
some_there k [] h = absurd h
some_there k (x ∷ xs) h = omega arith

module _ {m : Model} (c : Fitting m) where
  within : Each (targets c) (λ j t. Within (length c.rule.target) j)
  within = numbered_within (length c.rule.target) 1 c.rule.target (omega arith) (omega arith)

  -- the target's last instruction takes the place
  pub last_home : home_of c (length c.rule.target) ≡ c.at
  last_home = home_last c.fresh c.at (length c.rule.target) c.free.enough (length c.rule.target) refl

  pub place_new : In c.at (records (new_block c))
  place_new =
      let n = length c.rule.target in
      let (t, there) = in_stands (targets c) n (numbered_has 1 c.rule.target n (omega (arith, c.free.enough)) (omega arith)) in
      let (i, stands, alike) = stands_home c.match (home_of c) (targets c) n t there in
      subst (λ z. In z (records (new_block c))) last_home (stands_in (new_block c) (home_of c n) i stands)

  place_old : In c.at c.fresh → ⊥
  place_old h = T_not (eqb c.at c.at) (all_in _ c.fresh c.free.free c.at h).1 (same_eqb c.at c.at refl)

  -- a record of a new instruction
  abbrev pub New : ℕ → Type 0
  New q = (q ≡ c.at) ⊎ In q c.fresh

  home_is_new : Each (targets c) (λ j t. New (home_of c j))
  home_is_new j t s = home_cases c.fresh c.at (length c.rule.target) c.free.enough j (within j t s)

  pub block_is_new : (q : ℕ) → In q (records (new_block c)) → New q
  block_is_new q h =
      let (i, s) = in_stands (new_block c) q h in
      let (j, t, there, e, alike) = home_stands c.match (home_of c) (targets c) q i s in
      subst New e (home_is_new j t there)

  new_range : (q : ℕ) → New q → (1 ≤ q) × (q ≤ 64)
  new_range q (inl e) =
      let (i, s) = in_stands c.old.body c.at (place c) in
      subst⁻¹ (λ z. (1 ≤ z) × (z ≤ 64)) e (in_range m c.old.inputs [] c.old.body c.formed.ordered c.at i s)
  new_range q (inr h) = all_in _ c.fresh c.free.within q h

  -- it is that of no instruction that stays
  new_apart : Each c.old.body (λ q i. Stays c q → New q → ⊥)
  new_apart q i s k (inl e) = k.0 e
  new_apart q i s k (inr h) = not_in q _ (all_in _ c.fresh c.free.free q h).0 (stands_in _ q i (spliced_keeps (gone c) c.at [] c.old.body q i s k))

  -- the instructions behind the place, old, and the records of what stays before it
  abbrev lower : List Placed
  lower = behind c.at c.old.body

  abbrev first : List ℕ
  first = after [] (staying (gone c) c.at (upper c))

  first_has : (k : ℕ) → In k (records (upper c)) → (In k (gone c) → ⊥) → In k first
  first_has k h g =
      let (i, s) = in_stands (upper c) k h in
      after_new [] _ k (stands_in _ k i (spliced_keeps (gone c) c.at [] (upper c) k i s ((stands_before c.at c.old.body k i s).1, g)))

  first_from : (k : ℕ) → In k first → (i : Instruction) × Stands (upper c) k i × Stays c k
  first_from k h =
      let (i, s) = in_stands _ k (⊎_elim (λ none. absurd none) (λ t. t) (after_cases [] (staying (gone c) c.at (upper c)) k h)) in
      ⊎_elim (λ t. (i, t.0, t.1)) (λ none. absurd none) (spliced_cases (gone c) c.at [] (upper c) k i s)

  ordered_upper : Ordered m c.old.inputs [] (staying (gone c) c.at (upper c))
  ordered_upper =
      staying_ordered (gone c) c.at m c.old.inputs [] [] (upper c) (ordered_before m c.old.inputs [] c.at c.old.body c.formed.ordered)
      (λ k h g. h)
      (λ q i s. (stands_before c.at c.old.body q i s).1)
      (λ q i s g h. h)
      (λ q i s g. let (there, other) = stands_before c.at c.old.body q i s in unread c q i there (other, g))

  ordered_block : Ordered m c.old.inputs first (new_block c)
  ordered_block =
      home_ordered c.match (home_of c) m c.rule.variables c.old.inputs [] first (targets c) c.made.target_formed.ordered
      (λ j h. absurd h)
      (variable_holds c (Readable m c.old.inputs first) (λ k l. l) first_has (λ d t. t))
      (λ j t s. new_range (home_of c j) (home_is_new j t s))
      (λ j t s h. let (i, there, k) = first_from (home_of c j) h in new_apart (home_of c j) i (stands_before c.at c.old.body (home_of c j) i there).0 k (home_is_new j t s))
      (λ j t s l u x. home_apart c.fresh c.at (length c.rule.target) c.free.enough c.free.distinct place_old j l (within j t s) (within l u x))

  ordered_lower : Ordered m c.old.inputs (after first (new_block c)) (staying (gone c) c.at lower)
  ordered_lower =
      let seen = c.at ∷ after [] (upper c) in
      let order = ordered_behind m c.old.inputs [] c.at c.old.body c.formed.ordered (place c) in
      let apart : (k : ℕ) → In k seen → Each lower (λ q i. q ≡ k → ⊥) = later_apart m c.old.inputs seen lower order in
      let other = apart c.at (in_first c.at _) in
      staying_ordered (gone c) c.at m c.old.inputs seen (after first (new_block c)) lower order
      (λ k h g.
      ⊎_elim
      (λ e. after_new first (new_block c) k (subst⁻¹ (λ z. In z (records (new_block c))) e place_new))
      (λ t. after_old first (new_block c) k (first_has k (⊎_elim (λ none. absurd none) (λ u. u) (after_cases [] (upper c) k t)) g))
      (in_cases k c.at _ h))
      other
      (λ q i s g h.
      ⊎_elim
      (λ t. let (j, there, k) = first_from q t in apart q (in_there q c.at _ (after_new [] (upper c) q (stands_in _ q j there))) q i s refl)
      (λ t. new_apart q i (stands_behind c.at c.old.body q i s) (other q i s, g) (block_is_new q t))
      (after_cases first (new_block c) q h))
      (λ q i s g. unread c q i (stands_behind c.at c.old.body q i s) (other q i s, g))

  -- the new body is in order
  pub ordered_new : Ordered m c.old.inputs [] (new c).body
  ordered_new =
      subst⁻¹ (Ordered m c.old.inputs []) (spliced_parts (gone c) c.at m c.old.inputs (new_block c) [] c.old.body c.formed.ordered (place c))
      (ordered_append m c.old.inputs [] _ _ ordered_upper (ordered_append m c.old.inputs first (new_block c) _ ordered_block ordered_lower))

  -- the result stands in it
  pub has_result_new : In c.old.result (records (new c).body)
  has_result_new = ⊎_elim at_place elsewhere (same? c.old.result c.at)
    where
      at_place : c.old.result ≡ c.at → In c.old.result (records (new c).body)
      at_place e =
          let (i, s) = in_stands (new_block c) c.old.result (subst⁻¹ (λ z. In z (records (new_block c))) e place_new) in
          stands_in _ c.old.result i (spliced_new (gone c) c.at (new_block c) c.old.body (place c) c.old.result i s)

      elsewhere : (c.old.result ≡ c.at → ⊥) → In c.old.result (records (new c).body)
      elsewhere n =
          let (i, s) = in_stands c.old.body c.old.result c.formed.has_result in
          stands_in _ c.old.result i (spliced_keeps (gone c) c.at (new_block c) c.old.body c.old.result i s (n, not_in c.old.result (gone c) c.fits.no_result))

  -- it is a program again, where 64 instructions suffice
  pub formed_new : length (new c).body ≤ 64 → Formed m (new c)
  formed_new few = record {
    few_inputs = c.formed.few_inputs;
    some = some_there c.old.result _ has_result_new;
    few = few;
    ordered = ordered_new;
    has_result = has_result_new;
  }

pub stays_formed : (m : Model) → StaysFormed m
stays_formed m r made p formed at w fits fresh free few =
    let c : Fitting m = record { rule = r; made = made; old = p; formed = formed; at = at; match = w; fits = fits; fresh = fresh; free = free } in
    formed_new c few
