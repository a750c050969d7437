-- A refuted rule is convicted by its own source. Assumes nothing.
use Rattle.std.proofs.Common.{◌≡◌, ℕ, not, T, ◌⊎◌, List, [], ◌∷◌, ◌++◌, map, length, sym, refl, ap, ◌∙◌, subst, inl, inr, ⊎_elim, append-nil, Ok}
use Rattle.domain.specs.Model.{Model, OutcomeRefines}
use Rattle.semantics.specs.Programs.{Placed, Choices, Env, put, value, head, left, and_then, nothing_yet, run, outcome, reads, has, records, Readable, Ordered}
use Rattle.semantics.specs.Rules.{Rule, WellMade, Refutes, numbered, target_of, source_of, any_reads, Match, Agrees, Agree, Matched, Distinct, matches, removed, Fits, placed, rewritten, Fresh}
use Rattle.semantics.specs.declared.Operand.{Operand}
use Rattle.semantics.specs.declared.Operand.TheVariants.{Input, Record, Constant}
use Rattle.semantics.proofs.Members.{In, in_cases, into_more, unlike, out, Each, all_from_each, stands_in, in_stands, in_onwards, all_weaker}
use Rattle.semantics.proofs.Steps.{step_agrees}
use Rattle.semantics.proofs.Choices.{put_same, put_other}
use Rattle.semantics.proofs.Order.{next_apart, stands_before}
use Rattle.semantics.proofs.Matches.{Closes, closes, front_or_last, last_stays}
use Rattle.semantics.proofs.Homes.{rehomed, alike_home}
use Rattle.semantics.proofs.Kept.{behind, stands_behind, staying_none, spliced_parts}
use Rattle.semantics.proofs.Fitting.{Fitting, targets, gone, upper, home_of, new_block, new, place}
use Rattle.semantics.proofs.Rewritten.{last_home, ordered_new}

-- each source instruction is matched with itself
abbrev pub itself : Match
itself = record { record_of = λ j. j; operand_of = Input }

agrees_itself : (o : Operand) → Agrees itself o o
agrees_itself (Input v) = refl
agrees_itself (Record j) = refl
agrees_itself (Constant c) = refl

agree_itself : (os : List Operand) → Agree itself os os
agree_itself [] = tt
agree_itself (o ∷ os) = (agrees_itself o, agree_itself os)

pub ordered_distinct : (m : Model) (n : ℕ) (e : List ℕ) (xs : List Placed) → Ordered m n e xs → Distinct (records xs)
ordered_distinct m n e [] o = tt
ordered_distinct m n e (x ∷ xs) o = (out x.at (records xs) later, ordered_distinct m n (x.at ∷ e) xs o.4)
  where
    later : In x.at (records xs) → ⊥
    later h = let (i, s) = in_stands xs x.at h in next_apart m n e x xs o x.at i s refl

module _ (m : Model) (r : Rule) (made : WellMade m r) where
  source_distinct : Distinct (records (numbered 1 r.source))
  source_distinct = ordered_distinct m r.variables [] (numbered 1 r.source) made.source_formed.ordered

  source_closes : Closes itself (length r.source) (numbered 1 r.source)
  source_closes = closes itself (length r.source) r.source made.source_formed.some refl

  -- the rule fits its own source at the last instruction
  pub fits_itself : Fits (source_of r) r (length r.source) itself
  fits_itself = record {
    at_last = refl;
    same = all_from_each (Matched itself (numbered 1 r.source)) (numbered 1 r.source) (λ j s there. (s, there, (refl, refl, agree_itself (reads s))));
    outside = λ v l. tt;
    apart = source_distinct;
    unread = all_from_each (λ x. T (has x.at (matches itself r)) ⊎ T (not (any_reads (removed itself r) (reads x.what)))) (numbered 1 r.source) (λ j s there. inl (stands_in (numbered 1 r.source) j s there));
    no_result = out (length r.source) (removed itself r) (last_stays itself (length r.source) (numbered 1 r.source) source_closes source_distinct);
  }

  -- the rule at its own source
  abbrev pub own : (fresh : List ℕ) → Fresh (source_of r) r (length r.source) itself fresh → Fitting m
  own fresh free = record { rule = r; made = made; old = source_of r; formed = made.source_formed; at = length r.source; match = itself; fits = fits_itself; fresh = fresh; free = free }

-- of the source itself nothing stays
all_new : {m : Model} (c : Fitting m) → Each c.old.body (λ q i. In q (gone c) ⊎ (q ≡ c.at)) → (new c).body ≡ new_block c
all_new {m} c all =
    let first = staying_none (gone c) c.at (upper c) (λ q i s. all q i (stands_before c.at c.old.body q i s).0) in
    let last = staying_none (gone c) c.at (behind c.at c.old.body) (λ q i s. all q i (stands_behind c.at c.old.body q i s)) in
    spliced_parts (gone c) c.at m c.old.inputs (new_block c) [] c.old.body c.formed.ordered (place c)
    ∙ (λ j. first j ++ (new_block c ++ last j)) ∙ append-nil (new_block c)

pub rewritten_source : (m : Model) (r : Rule) (made : WellMade m r) (fresh : List ℕ) (free : Fresh (source_of r) r (length r.source) itself fresh) → (new (own m r made fresh free)).body ≡ new_block (own m r made fresh free)
rewritten_source m r made fresh free = all_new (own m r made fresh free) (λ q i s. front_or_last itself (length r.source) (numbered 1 r.source) (source_closes m r made) q (stands_in (numbered 1 r.source) q i s))

-- a run does not depend on the names of the records
module _ (m : Model) (k n : ℕ) (ins : List ℕ) (h : ℕ → ℕ) (result : ℕ) where
  agreed : (e : List ℕ) (ρ σ : Env) → ((j : ℕ) → In j e → σ (h j) ≡ ρ j) → (o : Operand) → Readable m k e o → (q : Operand) → Agrees (rehomed itself h) o q → value ins σ q ≡ value ins ρ o
  agreed e ρ σ agree (Input v) t q a = ap (value ins σ) a
  agreed e ρ σ agree (Record j) t q a = ap (value ins σ) a ∙ agree j t
  agreed e ρ σ agree (Constant c) t q a = ap (value ins σ) a

  put_agrees : (d e : List ℕ) (k v : ℕ) → T (not (has k d)) → T (not (has (h k) e)) → ((j : ℕ) → In j d → In (h j) e) → (ρ σ : Env) → ((j : ℕ) → In j d → σ (h j) ≡ ρ j) → (j : ℕ) → In j (k ∷ d) → put σ (h k) v (h j) ≡ put ρ k v j
  put_agrees d e k v new new_Home into ρ σ agree j i =
      ⊎_elim
      (λ same. put_same σ (h k) v (h j) (ap h same) ∙ sym (put_same ρ k v j same))
      (λ old. put_other σ (h k) v (h j) (unlike (h k) e new_Home (h j) (into j old)) ∙ agree j old ∙ sym (put_other ρ k v j (unlike k d new j old)))
      (in_cases j k d i)

  renamed : (d e : List ℕ) (xs : List Placed) → Ordered m k d xs → Ordered m n e (map (placed itself h) xs) → ((j : ℕ) → In j d → In (h j) e) → (ρ σ : Env) → ((j : ℕ) → In j d → σ (h j) ≡ ρ j) →
      In result d ⊎ In result (records xs) → (cs : List ℕ) → run m ins (h result) (map (placed itself h) xs) σ cs ≡ run m ins result xs ρ cs
  renamed d e [] o q into ρ σ agree (inl old) cs = ap Ok (agree result old)
  renamed d e [] o q into ρ σ agree (inr none) cs = absurd none
  renamed d e (x ∷ xs) o q into ρ σ agree there cs =
      let first = step_agrees m (rehomed itself h) (value ins σ) (value ins ρ) x.what (placed itself h x).what (head cs) (alike_home itself h x) (all_weaker (Readable m k d) _ (agreed d ρ σ agree) (reads x.what) o.3) in
      let rest = λ (v : ℕ). renamed (x.at ∷ d) (h x.at ∷ e) xs o.4 q.4 (into_more h d e x.at into) (put ρ x.at v) (put σ (h x.at) v) (put_agrees d e x.at v o.2 q.2 into ρ σ agree) (in_onwards result d x xs there) (left x.what cs) in
      λ j. and_then (first j) (λ v. rest v j)

-- the rewritten source gives what the target gives
same_outcome : (m : Model) (r : Rule) (made : WellMade m r) (fresh : List ℕ) → Fresh (source_of r) r (length r.source) itself fresh → (vars cs : List ℕ) → outcome m (rewritten (source_of r) r (length r.source) itself fresh) vars cs ≡ outcome m (target_of r) vars cs
same_outcome m r made fresh free vars cs =
    let c : Fitting m = own m r made fresh free in
    let body = rewritten_source m r made fresh free in
    ap (λ xs. run m vars c.at xs nothing_yet cs) body
    ∙ ap (λ k. run m vars k (new_block c) nothing_yet cs) (sym (last_home c))
    ∙ renamed m r.variables r.variables vars (home_of c) (length r.target) [] [] (targets c) made.target_formed.ordered (subst (Ordered m r.variables []) body (ordered_new c))
    (λ j h. absurd h) nothing_yet nothing_yet (λ j h. absurd h) (inr made.target_formed.has_result) cs

-- so at a refuting case it refines no outcome of the source
pub refines_none : (m : Model) (r : Rule) → WellMade m r → (vars cs : List ℕ) → Refutes m r vars cs → (fresh : List ℕ) → Fresh (source_of r) r (length r.source) itself fresh → (ds : List ℕ) → Choices m (source_of r) ds →
    OutcomeRefines m (outcome m (rewritten (source_of r) r (length r.source) itself fresh) vars cs) (outcome m (source_of r) vars ds) → ⊥
refines_none m r made vars cs refuted fresh free ds chosen h =
    refuted.none ds chosen (subst (λ o. OutcomeRefines m o (outcome m (source_of r) vars ds)) (same_outcome m r made fresh free vars cs) h)
