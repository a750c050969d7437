-- The trap layer keeps the laws of the domain below.
use Rattle.std.specs.Prelude.{◌≡◌, ℕ, true, bit_and}
use Rattle.std.proofs.Common.{rules, tests}
use Rattle.domain.specs.Model.{Model, Lawful, Within}
use Rattle.layers.specs.Layers.{outside, violated, trapping}
use Rattle.domain.proofs.Sets.{misses}
use Rattle.domain.proofs.Outcomes.{unless, unless_code, unless_trap}

-- marks that strike within a set strike in it
pub violated_more : (set marks x y : ℕ) → Within x y → violated set marks x ≡ true → violated set marks y ≡ true
violated_more set marks x y w e = let g = misses x y (bit_and marks set) w in search (rules, tests)

pub trapping_lawful : (m : Model) (set : ℕ) → Lawful m → Lawful (trapping m set)
trapping_lawful m set l = record {
  least_size = l.least_size;
  most_size = l.most_size;
  refines_refl = l.refines_refl;
  refines_trans = l.refines_trans;
  compute_mono = λ op marks a b a2 b2 r s.
      unless m (violated set marks (m.broken op a b)) (violated set marks (m.broken op a2 b2))
      (m.compute op (outside set marks) a b) (m.compute op (outside set marks) a2 b2)
      (violated_more set marks (m.broken op a b) (m.broken op a2 b2) (l.broken_mono op a b a2 b2 r s))
      (λ _ _. l.compute_mono op (outside set marks) a b a2 b2 r s);
  broken_mono = l.broken_mono;
  truth_yes = l.truth_yes;
  truth_no = l.truth_no;
  worst_top = l.worst_top;
  settled_down = l.settled_down;
  some_settled = l.some_settled;
  literal_settled = l.literal_settled;
  worst_code = l.worst_code;
  settled_code = l.settled_code;
  refines_codes = l.refines_codes;
  compute_code = λ op marks a b c e. l.compute_code op (outside set marks) a b c (unless_code _ _ c e).1;
  truth_code = l.truth_code;
  compute_outside = λ op marks a b h. unless_trap (violated set marks (m.broken op a b)) _ (l.compute_outside op (outside set marks) a b h);
  broken_outside = l.broken_outside;
}
