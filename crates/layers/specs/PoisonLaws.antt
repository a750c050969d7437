-- The poison layer keeps the laws of the domain below.
use Rattle.std.specs.Prelude.{◌≡◌, ℕ, ◌<◌, ◌≤◌, Bool, true, false, cond, ◌||◌, T, nat_lt, refl, Ok}
use Rattle.std.proofs.Common.{ap, ⊎_elim, arith, rules, tests}
use Rattle.std.proofs.lemmas.Bool.{cond_both, cases_Bool, cond-true, ltb-true, both_ways, false_from_ne_true}
use Rattle.vocabulary.specs.declared.operation.Operation.{Operation}
use Rattle.domain.specs.Model.{Model, Lawful, Outside, Within, OutcomeRefines, Outcome, trap}
use Rattle.layers.specs.Layers.{outside, violated, union_of, some_of, is_trap, is_poison, poison_broken, poison_traps, gives_poison, poison_compute, with_poison, poisoned, Stands}
use Rattle.domain.proofs.Sets.{within_both, within_trans}
use Rattle.layers.specs.Standing.{poison_stands, self_stands, some_at, some_found, some_each, union_has, union_keeps_of, union_each}
use Rattle.domain.proofs.Outcomes.{to_trap}
use Rattle.layers.specs.TrapLaws.{violated_more}

module _ (m : Model) (set : ℕ) (l : Lawful m) where
  -- where an operand refines another, each code that it stands for refines one that the other stands for
  stands_up : (a b x : ℕ) → T ((with_poison m set).refines a b) → Stands m a x → (y : ℕ) × Stands m b y × T (m.refines x y)
  stands_up a b x r s =
      ⊎_elim (λ e. let k : x < m.size = search (rules, tests) in (x, poison_stands m b x e k, l.refines_refl x k))
      (λ e. (b, self_stands m b e, search (rules, tests))) (cases_Bool (is_poison m b))

  -- what grows under refinement below grows when united or tested over the codes that operands stand for
  union_mono : (f g : ℕ → ℕ) → ((x y : ℕ) → T (m.refines x y) → Within (f x) (g y)) → (a b : ℕ) → T ((with_poison m set).refines a b) → Within (union_of m a f) (union_of m b g)
  union_mono f g h a b r =
      union_keeps_of m (λ u. Within u (union_of m b g)) refl (λ x y. within_both x y (union_of m b g)) a f
      (λ x s. let (y, t, q) = stands_up a b x r s in within_trans (f x) (g y) (union_of m b g) (h x y q) (union_has m b y g t))

  some_mono : (f g : ℕ → Bool) → ((x y : ℕ) → T (m.refines x y) → f x ≡ true → g y ≡ true) → (a b : ℕ) → T ((with_poison m set).refines a b) → some_of m a f ≡ true → some_of m b g ≡ true
  some_mono f g h a b r e = let (x, s, t) = some_found m a f e in let (y, u, q) = stands_up a b x r s in some_at m b y g u (h x y q t)

  broken_more : (op : Operation) (a b a2 b2 : ℕ) → T ((with_poison m set).refines a a2) → T ((with_poison m set).refines b b2) → Within (poison_broken m op a b) (poison_broken m op a2 b2)
  broken_more op a b a2 b2 r s =
      union_mono _ _ (λ x x2 p. union_mono (m.broken op x) (m.broken op x2) (λ y y2. l.broken_mono op x y x2 y2 p) b b2 s) a a2 r

  -- what refines a trap below may be anything, and what a trap refines is a trap
  trap_up : (o p : Outcome) → OutcomeRefines m o p → is_trap o ≡ true → is_trap p ≡ true
  trap_up (Ok a) p r e = search (rules, tests)
  trap_up trap (Ok b) r e = search (rules, tests)
  trap_up trap trap r e = search (rules, tests)

  traps_more : (op : Operation) (marks a b a2 b2 : ℕ) → T ((with_poison m set).refines a a2) → T ((with_poison m set).refines b b2) → poison_traps m op marks a b ≡ true → poison_traps m op marks a2 b2 ≡ true
  traps_more op marks a b a2 b2 r s =
      some_mono _ _ (λ x x2 p. some_mono _ _ (λ y y2 q. trap_up (m.compute op marks x y) (m.compute op marks x2 y2) (l.compute_mono op marks x y x2 y2 p q)) b b2 s) a a2 r

  gives_more : (op : Operation) (marks a b a2 b2 : ℕ) → T ((with_poison m set).refines a a2) → T ((with_poison m set).refines b b2) → gives_poison m set op marks a b ≡ true → gives_poison m set op marks a2 b2 ≡ true
  gives_more op marks a b a2 b2 r s =
      more (is_poison m a) (is_poison m b) (violated set marks (poison_broken m op a b)) (is_poison m a2) (is_poison m b2) (violated set marks (poison_broken m op a2 b2))
      (search (rules, tests)) (search (rules, tests)) (violated_more set marks (poison_broken m op a b) (poison_broken m op a2 b2) (broken_more op a b a2 b2 r s))
    where
      more : (x y z x2 y2 z2 : Bool) → (x ≡ true → x2 ≡ true) → (y ≡ true → y2 ≡ true) → (z ≡ true → z2 ≡ true) → (x || y || z) ≡ true → (x2 || y2 || z2) ≡ true
      more x y z x2 y2 z2 p q k e = search (rules, tests)

  -- an outcome that refines another below refines it in the layer, and refines poison if it is no trap
  lift_outcome : (o p : Outcome) → OutcomeRefines m o p → OutcomeRefines (with_poison m set) o p
  lift_outcome (Ok a) (Ok b) r = search (rules, tests)
  lift_outcome (Ok a) trap r = tt
  lift_outcome trap (Ok b) r = r
  lift_outcome trap trap r = tt

  to_poison : (o : Outcome) → is_trap o ≡ false → ((c : ℕ) → o ≡ Ok c → c ≤ m.size) → OutcomeRefines (with_poison m set) o (Ok m.size)
  to_poison (Ok a) e h = let k = h a refl in search (rules, tests)
  to_poison trap e h = search (rules, tests)

  -- a guarded outcome keeps refinement, if its guards pass the more the less is refined
  guarded : (t t2 g g2 : Bool) (o o2 : Outcome) → (t ≡ true → t2 ≡ true) → (g ≡ true → g2 ≡ true) → (t2 ≡ false → g ≡ false → OutcomeRefines (with_poison m set) o (Ok m.size)) → (g2 ≡ false → OutcomeRefines (with_poison m set) o o2) → OutcomeRefines (with_poison m set) (cond t trap (cond g (Ok m.size) o)) (cond t2 trap (cond g2 (Ok m.size) o2))
  guarded t true g g2 o o2 p q u v = to_trap (with_poison m set) _
  guarded true false g g2 o o2 p q u v = search (rules, tests)
  guarded false false g true o o2 p q u v = search (rules, tests)
  guarded false false g false o o2 p q u v = search (rules, tests)

  compute_more : (op : Operation) (marks a b a2 b2 : ℕ) → T ((with_poison m set).refines a a2) → T ((with_poison m set).refines b b2) → OutcomeRefines (with_poison m set) (poison_compute m set op marks a b) (poison_compute m set op marks a2 b2)
  compute_more op marks a b a2 b2 r s =
      guarded _ _ _ _ (m.compute op (outside set marks) a b) (m.compute op (outside set marks) a2 b2) (traps_more op (outside set marks) a b a2 b2 r s) (gives_more op marks a b a2 b2 r s)
      (λ e g. to_poison (m.compute op (outside set marks) a b)
      (false_from_ne_true _ (λ t. both_ways _ e (traps_more op (outside set marks) a b a2 b2 r s (search (rules, tests))))) (search (rules, tests)))
      (λ g. let p : T (m.refines a a2) × T (m.refines b b2) = search (rules, tests) in lift_outcome _ _ (l.compute_mono op (outside set marks) a b a2 b2 p.0 p.1))

  -- what an operand stands for is no code where the operand is none
  still_outside : (op : Operation) (a b x y : ℕ) → Stands m a x → Stands m b y → Outside (with_poison m set) op a b → Outside m op x y
  still_outside op a b x y p q o = search (rules, tests)

  traps_outside : (op : Operation) (marks a b : ℕ) → Outside (with_poison m set) op a b → poison_compute m set op marks a b ≡ trap
  traps_outside op marks a b o =
      cond-true (poison_traps m op (outside set marks) a b) trap _
      (some_each m l.least_size a _ (λ x p. some_each m l.least_size b _ (λ y q. ap is_trap (l.compute_outside op (outside set marks) x y (still_outside op a b x y p q o)))))

  unbroken_outside : (op : Operation) (a b : ℕ) → Outside (with_poison m set) op a b → poison_broken m op a b ≡ 0
  unbroken_outside op a b o =
      union_each m a _ (λ x p. union_each m b (m.broken op x) (λ y q. l.broken_outside op x y (still_outside op a b x y p q o)))

  with_poison_lawful : m.size < 65535 → Lawful (with_poison m set)
  with_poison_lawful room = record {
    least_size = search (rules, tests);
    most_size = search (rules, tests);
    refines_refl = search (rules, tests);
    refines_trans = search (rules, tests);
    compute_mono = compute_more;
    broken_mono = broken_more;
    truth_yes = search (rules, tests);
    truth_no = search (rules, tests);
    worst_top = search (rules, tests);
    settled_down = search (rules, tests);
    some_settled = l.some_settled;
    literal_settled = l.literal_settled;
    worst_code = omega arith;
    settled_code = search (rules, tests);
    refines_codes = search (rules, tests);
    compute_code = search (rules, tests);
    truth_code = search (rules, tests);
    compute_outside = traps_outside;
    broken_outside = unbroken_outside;
  }

pub poisoned_lawful : (m : Model) (set : ℕ) → Lawful m → Lawful (poisoned m set)
poisoned_lawful m set l =
    cond_both (nat_lt m.size 65535) (with_poison m set) m Lawful (λ e. with_poison_lawful m set l (ltb-true m.size 65535 e)) (λ _. l)
