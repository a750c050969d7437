use Rattle.std.proofs.Common.{◌≡◌, ℕ, ◌+◌, ◌-◌, ◌≤◌, length, sym, subst, arith}
use Rattle.semantics.specs.Cases.{from, keep, settled_codes}
use Rattle.checker.proofs.Above.{count_misses, count_meets}
use Rattle.checker.proofs.number.count_settled.Goals as goal
use Rattle.checker.proofs.number.count_settled.Goals.{then-settled, else-settled}

pub loop-code-preserved : goal.loop-code-preserved
loop-code-preserved g c =
    let m = g.D.Domain.model c.args.domain.now in
    let k = c.loop-code.code in
    let P : ℕ → Type 0 = λ n. (n ≤ k + 1) × (n + length (keep m.settled (from (k + 1) (m.size - (k + 1)))) ≡ length (settled_codes m)) in
    elim c.if-settled.branch [
      | then-settled w ↦ subst P (sym w.count-is) (omega arith, omega (arith, c.loop-code.invariant.1, count_meets m.settled m.size k (sym w.if-settled.ensures) (omega arith)))
      | else-settled w ↦ subst P (sym w.count-is) (omega arith, omega (arith, c.loop-code.invariant.1, count_misses m.settled m.size k (sym w.if-settled.ensures)))
    ]
