-- The trap layer and the poison layer over any domain. Assumes nothing.
use Rattle.std.specs.Prelude.{◌≡◌, ℕ, ◌+◌, ◌-◌, ◌<◌, Bool, true, false, cond, ◌||◌, ◌⊎◌, ◌==◌, ◌≢◌, bit_and, bit_or, map, nat_le, nat_lt, Ok}
use Rattle.std.specs.List.{fold, list_any, range_with_len}
use Rattle.vocabulary.specs.declared.operation.Operation.{Operation}
use Rattle.domain.specs.Model.{Model, Outcome, trap}

-- the marks outside a set
abbrev pub outside : ℕ → ℕ → ℕ
outside set marks = marks - bit_and marks set

-- a mark of the set is on the operation and broken
abbrev pub violated : ℕ → ℕ → ℕ → Bool
violated set marks broken = nat_lt 0 (bit_and broken (bit_and marks set))

-- the trap layer answers like the domain below except in compute
abbrev pub trapping : Model → ℕ → Model
trapping m set = record {
  size = m.size;
  literal = m.literal;
  settled = m.settled;
  refines = m.refines;
  truth = m.truth;
  worst = m.worst;
  broken = m.broken;
  compute = λ op marks a b. cond (violated set marks (m.broken op a b)) trap (m.compute op (outside set marks) a b);
}

-- the union of sets over the numbers below a bound
unfoldable pub union : ℕ → (ℕ → ℕ) → ℕ
union n f = fold bit_or 0 (map f (range_with_len 0 n))

-- a test passes at some number below a bound
unfoldable pub any : ℕ → (ℕ → Bool) → Bool
any n f = list_any f (range_with_len 0 n)

abbrev pub is_trap : Outcome → Bool
is_trap (Ok c) = false
is_trap trap = true

-- the one more code
abbrev pub is_poison : Model → ℕ → Bool
is_poison m c = c == m.size

-- an operand that is poison stands for every code below, and another for itself: the union over these codes
abbrev pub union_of : Model → ℕ → (ℕ → ℕ) → ℕ
union_of m c f = cond (is_poison m c) (union m.size f) (f c)

-- a test passes at some of these codes
abbrev pub some_of : Model → ℕ → (ℕ → Bool) → Bool
some_of m c f = cond (is_poison m c) (any m.size f) (f c)

-- broken is the union over all that the operands stand for
abbrev pub poison_broken : Model → Operation → ℕ → ℕ → ℕ
poison_broken m op a b = union_of m a (λ x. union_of m b (λ y. m.broken op x y))

-- computing below traps for some of them
abbrev pub poison_traps : Model → Operation → ℕ → ℕ → ℕ → Bool
poison_traps m op marks a b = some_of m a (λ x. some_of m b (λ y. is_trap (m.compute op marks x y)))

-- an operand is poison, or a mark of the set on the operation is broken
abbrev pub gives_poison : Model → ℕ → Operation → ℕ → ℕ → ℕ → Bool
gives_poison m set op marks a b = (is_poison m a || is_poison m b) || violated set marks (poison_broken m op a b)

-- a trap if it traps below for some, otherwise poison, otherwise what stands below, with the marks outside the set
abbrev pub poison_compute : Model → ℕ → Operation → ℕ → ℕ → ℕ → Outcome
poison_compute m set op marks a b =
    cond (poison_traps m op (outside set marks) a b) trap
    (cond (gives_poison m set op marks a b) (Ok m.size) (m.compute op (outside set marks) a b))

-- one more code, poison, equal to the size below. Being no code below, it is not settled and has truth neither
abbrev pub with_poison : Model → ℕ → Model
with_poison m set = record {
  size = m.size + 1;
  literal = m.literal;
  settled = m.settled;
  refines = λ a b. cond (is_poison m b) (nat_le a m.size) (m.refines a b);
  truth = m.truth;
  worst = m.size;
  broken = poison_broken m;
  compute = poison_compute m set;
}

-- the poison layer; over 65,535 codes it answers everything like the domain below
abbrev pub poisoned : Model → ℕ → Model
poisoned m set = cond (nat_lt m.size 65535) (with_poison m set) m

-- the same in terms of what operands stand for: poison for every code below, another number for itself
abbrev pub Stands : Model → ℕ → ℕ → Type 0
Stands m c x = ((c ≡ m.size) × (x < m.size)) ⊎ ((c ≢ m.size) × (x ≡ c))

pub record StandsForAll (m : Model) : Type 0 where
  -- broken has a mark of a set exactly where it has one below for some codes that the operands stand for
  pub unbroken : (op : Operation) (a b marks : ℕ) → bit_and (poison_broken m op a b) marks ≡ 0 → (x y : ℕ) → Stands m a x → Stands m b y → bit_and (m.broken op x y) marks ≡ 0
  pub all_unbroken : (op : Operation) (a b marks : ℕ) → ((x y : ℕ) → Stands m a x → Stands m b y → bit_and (m.broken op x y) marks ≡ 0) → bit_and (poison_broken m op a b) marks ≡ 0
  -- and it traps exactly where it does below for some of them
  pub trap_of_some : (op : Operation) (marks a b : ℕ) → poison_traps m op marks a b ≡ true → (x : ℕ) × (y : ℕ) × Stands m a x × Stands m b y × (m.compute op marks x y ≡ trap)
  pub some_trap : (op : Operation) (marks a b x y : ℕ) → Stands m a x → Stands m b y → m.compute op marks x y ≡ trap → poison_traps m op marks a b ≡ true
