-- A side run one instruction after the other, and its freezes counted. Assumes nothing.
use Rattle.std.proofs.Common.{◌≡◌, ℕ, Bool, true, false, suc, ◌+◌, ◌<◌, cond, List, [], ◌∷◌, length, get_or, drop, sym, ap, ◌∙◌, add-one, arith, Ok, count_by, refl}
use Rattle.std.proofs.lemmas.List.{drop_more}
use Rattle.std.proofs.lemmas.List.Sums.{sum_by-cons}
use Rattle.domain.specs.Model.{Model, Outcome, trap}
use Rattle.semantics.specs.Programs.{Placed, is_freeze, run, freezes}
use Rattle.semantics.specs.Values.{env}
use Rattle.semantics.specs.Runs.{RunsOn}
use Rattle.semantics.specs.Rules.{numbered}
use Rattle.semantics.specs.declared.Instruction.{Instruction}

-- the freezes of a side
pub freezes_counted : (is : List Instruction) (k : ℕ) → count_by is_freeze is ≡ freezes (numbered k is)
freezes_counted [] k = refl
freezes_counted (i ∷ is) k = sum_by-cons (λ x. cond (is_freeze x) 1 0) i is ∙ counted (is_freeze i) (freezes_counted is (suc k))
  where
    counted : (b : Bool) → count_by is_freeze is ≡ freezes (numbered (suc k) is) → cond b 1 0 + count_by is_freeze is ≡ cond b (suc (freezes (numbered (suc k) is))) (freezes (numbered (suc k) is))
    counted true h = omega arith
    counted false h = omega arith

-- the i-th instruction and what is left behind it, where the loop has run those before
module _ (m : Model) (ins : List ℕ) (n : ℕ) (d : Instruction) (is : List Instruction) (vs cs : List ℕ) (i : ℕ) (whole : Outcome) (within : i < length is)
    (inv : run m ins n (numbered (i + 1) (drop i is)) (env vs) cs ≡ whole) where
  abbrev behind : List Placed
  behind = numbered (suc (i + 1)) (drop (i + 1) is)

  opened : run m ins n (record { at = i + 1; what = get_or is i d } ∷ behind) (env vs) cs ≡ whole
  opened = sym (ap (λ ys. run m ins n (numbered (i + 1) ys) (env vs) cs) (drop_more is i d within)) ∙ inv

  pub run_more : (ws es : List ℕ) (u : Unit {0}) → RunsOn m ins (record { at = i + 1; what = get_or is i d }) (env vs) cs (env ws) es (Ok u) → run m ins n (numbered (i + 1 + 1) (drop (i + 1) is)) (env ws) es ≡ whole
  run_more ws es u h = ap (λ k. run m ins n (numbered k (drop (i + 1) is)) (env ws) es) (add-one (i + 1)) ∙ sym (h n behind) ∙ opened

  pub run_traps : ((result : ℕ) (xs : List Placed) → run m ins result (record { at = i + 1; what = get_or is i d } ∷ xs) (env vs) cs ≡ trap) → trap ≡ whole
  run_traps h = sym (h n behind) ∙ opened
