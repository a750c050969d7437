-- What rewriting and passing leave is proper and refines what was there. Assumes nothing.
use Rattle.std.proofs.Common.{◌≡◌, ℕ, ◌≤◌, Bool, true, false, cond, T, leb, List, [], ◌∷◌, length, refl, leb→le}
use Rattle.domain.specs.Model.{Model, Lawful}
use Rattle.semantics.specs.Programs.{Refines, All, has, records}
use Rattle.semantics.specs.Rules.{Rule, WellMade, Match, Fits}
use Rattle.semantics.specs.Fitting.{Fitted, matched, unfit, fit}
use Rattle.semantics.specs.Changes.{Loaded, Changed, changed, unchanged, rewrite, rewrite_few, rewrite_fitted, rewrite_at, Passing, or_next, visit, visits, ProperProgram, Checked}
use Rattle.semantics.proofs.Members.{In, all_weaker}
use Rattle.semantics.proofs.Fit.{fitting_exact}
use Rattle.semantics.proofs.Refinement.{refines_itself, refines_on}
use Rattle.semantics.proofs.Changes.{rewrite_proper, rewrite_refines}

-- P holds of what a change gives
abbrev pub Of : (Loaded → Type 0) → Changed → Type 0
Of P (changed l) = P l
Of P (unchanged k) = Unit {0}

-- what holds of each rewriting where the rule fits and 64 instructions suffice
module _ (m : Model) (l : Loaded) (proper : ProperProgram m l) (r : Rule) (made : WellMade m r) (at : ℕ) (P : Loaded → Type 0)
    (holds : (w : Match) → Fits l.program r at w → In at (records l.program.body) → length (rewrite l r at w).program.body ≤ 64 → P (rewrite l r at w)) where
  -- of a match
  few_holds : (w : Match) → Fits l.program r at w → In at (records l.program.body) → Of P (rewrite_few (rewrite l r at w))
  few_holds w fits there = go (leb (length (rewrite l r at w).program.body) 64) (leb→le (length (rewrite l r at w).program.body) 64)
    where
      go : (b : Bool) → (T b → length (rewrite l r at w).program.body ≤ 64) → Of P (cond b (changed (rewrite l r at w)) (unchanged 19))
      go true few = holds w fits there (few tt)
      go false few = tt

  -- of what `fit` answers
  fitted_holds : In at (records l.program.body) → (f : Fitted) → ((w : Match) → f ≡ matched w → Fits l.program r at w) → Of P (rewrite_fitted l r at f)
  fitted_holds there (matched w) fits = few_holds w (fits w refl) there
  fitted_holds there (unfit k) fits = tt

  -- of one rule at one record
  pub rewrite_holds : Of P (rewrite_at l r at)
  rewrite_holds = go (has at (records l.program.body)) (λ t. t)
    where
      go : (b : Bool) → (T b → In at (records l.program.body)) → Of P (cond b (rewrite_fitted l r at (fit l.program r at)) (unchanged 15))
      go true there = fitted_holds (there tt) (fit l.program r at) (fitting_exact m r made l.program proper.formed at).fits
      go false there = tt

-- what holds before a visit and of each change by a rule holds after it
pub visit_holds : (P : Loaded → Type 0) (x : Passing) (at : ℕ) → P x.now → (rs : List Rule) → All (λ r. Of P (rewrite_at x.now r at)) rs → P (visit rs x at).now
visit_holds P x at start [] each = start
visit_holds P x at start (r ∷ rs) each = go (rewrite_at x.now r at) each.0 (visit_holds P x at start rs each.1)
  where
    go : (c : Changed) → Of P c → P (visit rs x at).now → P (or_next x c (visit rs x at)).now
    go (changed l) h rest = h
    go (unchanged k) h rest = rest

module _ (m : Model) (law : Lawful m) where
  -- l2 is proper and refines l
  abbrev pub Follows : Loaded → Loaded → Type 0
  Follows l l2 = ProperProgram m l2 × Refines m l2.program l.program

  -- a change gives such a program
  abbrev pub Changes : Loaded → Changed → Type 0
  Changes l c = Of (Follows l) c

  -- a proper program follows itself
  pub follows_itself : (l : Loaded) → ProperProgram m l → Follows l l
  follows_itself l proper = (proper, refines_itself m law l.program proper.formed)

  -- following goes on
  follows_on : (a b c : Loaded) → Follows a b → Follows b c → Follows a c
  follows_on a b c h k = (k.0, refines_on m law c.program b.program a.program k.1 h.1)

  -- one rule at one record
  pub rewrite_changes : (l : Loaded) → ProperProgram m l → (r : Rule) → Checked m r → (at : ℕ) → Changes l (rewrite_at l r at)
  rewrite_changes l proper r entry at =
      rewrite_holds m l proper r entry.made at (Follows l) (λ w fits there few. (
        rewrite_proper m l proper r entry.made at w fits there few,
        rewrite_refines m l proper r entry.made at w fits there few law entry.refines,
      ))

  -- the rules of a book at one record
  pub visit_follows : (rs : List Rule) → All (Checked m) rs → (x : Passing) → ProperProgram m x.now → (at : ℕ) → Follows x.now (visit rs x at).now
  visit_follows rs entries x proper at = visit_holds (Follows x.now) x at (follows_itself x.now proper) rs (all_weaker (Checked m) (λ r. Changes x.now (rewrite_at x.now r at)) (λ r entry. rewrite_changes x.now proper r entry at) rs entries)

  -- a whole pass
  pub visits_follow : (rs : List Rule) → All (Checked m) rs → (x : Passing) → ProperProgram m x.now → (ats : List ℕ) → Follows x.now (visits rs x ats).now
  visits_follow rs entries x proper [] = follows_itself x.now proper
  visits_follow rs entries x proper (at ∷ ats) =
      let first = visit_follows rs entries x proper at in
      follows_on x.now (visit rs x at).now (visits rs (visit rs x at) ats).now first (visits_follow rs entries (visit rs x at) first.0 ats)
