-- A rewriting leaves all that stands behind its place alone, so a pass meets each instruction as it stood at the start. Assumes nothing.
use Rattle.std.proofs.Common.{◌≡◌, ℕ, cond, eqb, List, [], ◌∷◌, ◌++◌, take, sym, refl, ap, ◌∙◌, subst, inl, ⊎_elim, append_assoc}
use Rattle.std.proofs.lemmas.Bool.{cond-true, cond-false}
use Rattle.domain.specs.Model.{Model, Lawful}
use Rattle.semantics.specs.Programs.{Placed, records, Ordered, All, has}
use Rattle.semantics.specs.Rules.{Rule, WellMade, numbered, Match, Matched, Fits, matches, removed, block}
use Rattle.semantics.specs.Changes.{Loaded, available, wanted, rewrite, Passing, visit, visits, ProperProgram, Checked, PassMeets}
use Rattle.semantics.proofs.Members.{fails, same_test, other_test, In, in_first, in_there, Each, each_head, each_tail, each_from_all, all_weaker, front_in}
use Rattle.semantics.proofs.Order.{later_apart, next_apart, before}
use Rattle.semantics.proofs.Splice.{Kept, stands_right}
use Rattle.semantics.proofs.Kept.{after, after_new, behind, ordered_behind, staying, spliced_parts}
use Rattle.semantics.proofs.Matches.{closes, found_by, last_stays, matched_by}
use Rattle.semantics.proofs.Passes.{rewrite_holds, visit_holds, visit_follows}

-- what stands behind the first part of a body in order
behind_part : (m : Model) (n : ℕ) (e : List ℕ) (zs : List Placed) (x : Placed) (ys : List Placed) → Ordered m n e (zs ++ (x ∷ ys)) → behind x.at (zs ++ (x ∷ ys)) ≡ ys
behind_part m n e [] x ys o = cond-true (eqb x.at x.at) ys (behind x.at ys) (same_test refl)
behind_part m n e (z ∷ zs) x ys o =
    cond-false (eqb z.at x.at) (zs ++ (x ∷ ys)) (behind x.at (zs ++ (x ∷ ys))) (other_test (λ same. next_apart m n e z (zs ++ (x ∷ ys)) o x.at x.what (stands_right zs (x ∷ ys) x.at x.what (inl (refl, refl))) (sym same)))
    ∙ behind_part m n (z.at ∷ e) zs x ys o.4

-- where nothing goes, all stays
staying_all : (gone : List ℕ) (at : ℕ) (xs : List Placed) → Each xs (λ q i. Kept gone at q) → staying gone at xs ≡ xs
staying_all gone at [] keep = refl
staying_all gone at (x ∷ xs) keep =
    let k = each_head x xs keep in
    cond-false (eqb x.at at) ([] ++ staying gone at xs) (cond (has x.at gone) (staying gone at xs) (x ∷ staying gone at xs)) (other_test k.0)
    ∙ cond-false (has x.at gone) (staying gone at xs) (x ∷ staying gone at xs) (fails (has x.at gone) k.1)
    ∙ ap (λ z. x ∷ z) (staying_all gone at xs (each_tail x xs keep))

module _ (m : Model) (l : Loaded) (proper : ProperProgram m l) (r : Rule) (made : WellMade m r) (at : ℕ) (w : Match) (fits : Fits l.program r at w) (there : In at (records l.program.body)) where
  -- a match but the last stands before the place
  gone_before : (k : ℕ) → In k (removed w r) → In k (records (before at l.program.body))
  gone_before k h =
      let ss = numbered 1 r.source in
      let closing = closes w at r.source made.source_formed.some fits.at_last in
      let (j, s, stands, e) = found_by w at ss k (front_in (matches w r) k h) in
      let by = matched_by w at m l.program.inputs l.program.body proper.formed.ordered ss (each_from_all (Matched w l.program.body) ss fits.same) made.all_read closing j s stands in
      ⊎_elim
      (λ same. absurd (last_stays w at ss closing fits.apart (subst (λ z. In z (removed w r)) (sym e ∙ same) h)))
      (λ t. subst (λ z. In z (records (before at l.program.body))) e t)
      by

  -- so what stands behind it stays
  behind_stays : Each (behind at l.program.body) (λ q i. Kept (removed w r) at q)
  behind_stays q i s =
      let order = ordered_behind m l.program.inputs [] at l.program.body proper.formed.ordered there in
      let seen = after [] (before at l.program.body) in
      let apart = later_apart m l.program.inputs (at ∷ seen) (behind at l.program.body) order in (
        apart at (in_first at seen) q i s,
        λ g. apart q (in_there q at seen (after_new [] (before at l.program.body) q (gone_before q g))) q i s refl,
      )

  -- the new body ends as the old one does
  pub rewrite_behind : (now : List Placed) × ((rewrite l r at w).program.body ≡ now ++ behind at l.program.body)
  rewrite_behind =
      let gone = removed w r in
      let body = l.program.body in
      let new = rewrite_block in (
        staying gone at (before at body) ++ new,
        spliced_parts gone at m l.program.inputs new [] body proper.formed.ordered there
            ∙ ap (λ z. staying gone at (before at body) ++ (new ++ z)) (staying_all gone at (behind at body) behind_stays)
            ∙ sym (append_assoc (staying gone at (before at body)) new (behind at body)),
      )
    where
      rewrite_block : List Placed
      rewrite_block = block r w at (take (wanted r) (available l r w))

module _ (m : Model) (law : Lawful m) (rs : List Rule) (entries : All (Checked m) rs) where
  -- a body ends with these instructions
  abbrev EndsWith : List Placed → Loaded → Type 0
  EndsWith rest l = (now : List Placed) × (l.program.body ≡ now ++ rest)

  -- a visit leaves all that stands behind
  visit_ends : (x : Passing) → ProperProgram m x.now → (zs : List Placed) (y : Placed) (rest : List Placed) → x.now.program.body ≡ zs ++ (y ∷ rest) → EndsWith rest (visit rs x y.at).now
  visit_ends x proper zs y rest e =
      visit_holds (EndsWith rest) x y.at (zs ++ (y ∷ []), e ∙ sym (append_assoc zs (y ∷ []) rest)) rs
      (all_weaker (Checked m) _ (λ r entry. rewrite_holds m x.now proper r entry.made y.at (EndsWith rest) (λ w fits there few.
      let (now, is) = rewrite_behind m x.now proper r entry.made y.at w fits there in
      (now, is ∙ ap (λ z. now ++ z) rest_is))) rs entries)
    where
      rest_is : behind y.at x.now.program.body ≡ rest
      rest_is = ap (behind y.at) e ∙ behind_part m x.now.program.inputs [] zs y rest (subst (Ordered m x.now.program.inputs []) e proper.formed.ordered)

  -- so do several visits
  visits_end : (x : Passing) → ProperProgram m x.now → (zs ys rest : List Placed) → x.now.program.body ≡ zs ++ (ys ++ rest) → EndsWith rest (visits rs x (records ys)).now
  visits_end x proper zs [] rest e = (zs, e)
  visits_end x proper zs (y ∷ ys) rest e =
      let (now, is) = visit_ends x proper zs y (ys ++ rest) e in
      visits_end (visit rs x y.at) (visit_follows m law rs entries x proper y.at).0 now ys rest is

-- a pass meets each instruction as it stood at the start
pub pass_meets : (m : Model) → Lawful m → PassMeets m
pass_meets m law rs entries l proper xs here ys e = visits_end m law rs entries (record { count = 0; now = l }) proper [] xs (here ∷ ys) e
