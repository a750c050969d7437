-- A run by one instruction after the other, its values and choices in lists. Assumes nothing.
use Rattle.std.proofs.Common.{◌≡◌, ℕ, ◌<◌, eqb, List, length, get_or, set, replicate, sym, ap, ◌∙◌, ⊎_elim, arith, Ok}
use mathlib.Core.Path.{fun_ext}
use Rattle.std.proofs.lemmas.Bool.{cond_both, eqb-true, eqb-false, cases_lt}
use Rattle.std.proofs.lemmas.List.{get_or-set_same, get_or-set_other, get_or_past, get_or-replicate, length-replicate}
use Rattle.domain.specs.Model.{Model, Outcome}
use Rattle.semantics.specs.Programs.{Env, put, value, step, head, left, and_then, run, nothing_yet}
use Rattle.semantics.specs.Runs.{RunsOn}
use Rattle.semantics.specs.Values.{env}
use Rattle.semantics.specs.declared.Instruction.{Instruction}

-- a value written into the list is a value put into the environment
pub put_set : (values : List ℕ) (at v : ℕ) → at < length values → put (env values) at v ≡ env (set values at v)
put_set values at v h = fun_ext (λ k. cond_both (eqb k at) v (get_or values k 0) (λ x. x ≡ get_or (set values at v) k 0)
    (λ e. sym (ap (λ j. get_or (set values at v) j 0) (eqb-true k at e) ∙ get_or-set_same values at v 0 h))
    (λ e. sym (get_or-set_other values at k v 0 (eqb-false k at e))))

-- no record has a value at first
pub zeros : (n : ℕ) → env (replicate n 0) ≡ nothing_yet
zeros n = fun_ext (λ k. ⊎_elim (λ h. get_or-replicate n k 0 0 h) (λ h. get_or_past (replicate n 0) k 0 (omega (arith, length-replicate {A = ℕ} n 0))) (cases_lt k n))

-- an instruction that gave a code: what stands behind it runs on from there
pub runs_on :
    (m : Model) (ins : List ℕ) (at : ℕ) (i : Instruction) (values cs ds : List ℕ) (choice v : ℕ) (u : Unit {0}) → at < length values → choice ≡ head cs → Ok v ≡ step m (value ins (env values)) i choice →
    ds ≡ left i cs → RunsOn m ins (record { at = at; what = i }) (env values) cs (env (set values at v)) ds (Ok u)
runs_on m ins at i values cs ds choice v u h ec e el result xs =
    ap (λ c. and_then (step m (value ins (env values)) i c) (go (put (env values) at) (left i cs))) (sym ec) ∙
    ap (λ o. and_then o (go (put (env values) at) (left i cs))) (sym e) ∙
    ap (λ l. run m ins result xs (put (env values) at v) l) (sym el) ∙
    ap (λ ρ. run m ins result xs ρ ds) (put_set values at v h)
  where
    go : (ℕ → Env) → List ℕ → ℕ → Outcome
    go σ l w = run m ins result xs (σ w) l
