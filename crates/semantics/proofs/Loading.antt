-- A program as it is loaded is proper. Assumes nothing.
use Rattle.std.proofs.Common.{◌≡◌, ℕ, suc, ◌-◌, ◌≤◌, length, subst, arith}
use mathlib.Core.Path.{subst⁻¹}
use Rattle.domain.specs.Model.{Model}
use Rattle.semantics.specs.Programs.{Program, Formed, records}
use Rattle.semantics.specs.Cases.{from}
use Rattle.semantics.specs.Changes.{as_loaded, ProperProgram}
use Rattle.semantics.proofs.Members.{In, not_in, out}
use Rattle.semantics.proofs.Numbers.{from_in, in_from, from_distinct}

pub load_proper : (m : Model) (p : Program) → Formed m p → records p.body ≡ from 1 (length p.body) → ProperProgram m (as_loaded p)
load_proper m p formed stand =
    let n = length p.body in
    let few = formed.few in
    record {
      formed = formed;
      distinct = from_distinct (suc n) (64 - n);
      free = λ k. (
        λ h. let b = from_in (suc n) (64 - n) k h in (omega arith, omega arith, out k (records p.body) (λ s. let c = from_in 1 n k (subst (In k) stand s) in omega arith)),
        λ h. in_from (suc n) (64 - n) k (above k n h.0 (λ l. not_in k (records p.body) h.2 (subst⁻¹ (In k) stand (in_from 1 n k h.0 (omega arith))))) (omega arith),
      );
    }
  where
    above : (k n : ℕ) → 1 ≤ k → (k ≤ n → ⊥) → suc n ≤ k
    above k n low not-below = omega arith
