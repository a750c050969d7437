-- Instructions in a row that read inputs, earlier ones and settled constants. Assumes nothing.
use Rattle.std.proofs.Common.{◌≡◌, ℕ, suc, ◌+◌, ◌<◌, ◌≤◌, Bool, true, false, not, ◌||◌, T, eqb, List, [], ◌∷◌, ◌++◌, length, refl, ap, subst, ⊎_elim, arith, eqb→eq}
use lib.Dec.{not_T}
use Rattle.semantics.specs.declared.Operand.{Operand}
use Rattle.semantics.specs.declared.Operand.TheVariants.{Input, Record, Constant}
use Rattle.semantics.specs.declared.Instruction.{Instruction}
use Rattle.domain.specs.Model.{Model}
use Rattle.semantics.specs.Programs.{Placed, All, has, reads, records, Readable, Ordered}
use Rattle.semantics.specs.Rules.{numbered, any_reads, read_in, AllRead, front}
use Rattle.semantics.proofs.Members.{same?, In, in_here, in_there, in_cases, all_weaker}
use Rattle.text.specs.RuleTexts.{some_unread}
use Rattle.text.proofs.Tests.{not_fails, none_of}

-- an operand of the instruction at place k, from 1, with n inputs
abbrev pub Okay : Model → ℕ → ℕ → Operand → Type 0
Okay m n k (Input v) = v < n
Okay m n k (Record r) = (1 ≤ r) × (r < k)
Okay m n k (Constant c) = T (m.settled c)

abbrev pub Fine : Model → ℕ → ℕ → List Instruction → Type 0
Fine m n k [] = Unit {0}
Fine m n k (i ∷ is) = All (Okay m n k) (reads i) × Fine m n (suc k) is

pub okay_more : (m : Model) (n p k : ℕ) → n ≤ p → (o : Operand) → Okay m n k o → Okay m p k o
okay_more m n p k h (Input v) o = omega arith
okay_more m n p k h (Record r) o = o
okay_more m n p k h (Constant c) o = o

pub fine_more : (m : Model) (n p k : ℕ) → n ≤ p → (is : List Instruction) → Fine m n k is → Fine m p k is
fine_more m n p k h [] f = tt
fine_more m n p k h (i ∷ is) f = (all_weaker (Okay m n k) (Okay m p k) (okay_more m n p k h) (reads i) f.0, fine_more m n p (suc k) h is f.1)

pub fine_push : (m : Model) (n k : ℕ) (is : List Instruction) (i : Instruction) → Fine m n k is → All (Okay m n (k + length is)) (reads i) → Fine m n k (is ++ i ∷ [])
fine_push m n k [] i f a = (subst (λ j. All (Okay m n j) (reads i)) (let e : k + 0 ≡ k = omega arith in e) a, tt)
fine_push m n k (x ∷ is) i f a = (f.0, fine_push m n (suc k) is i f.1 (subst (λ j. All (Okay m n j) (reads i)) (let e : k + suc (length is) ≡ suc k + length is = omega arith in e) a))

readable_in : (m : Model) (n k : ℕ) (e : List ℕ) → ((r : ℕ) → 1 ≤ r → r < k → In r e) → (o : Operand) → Okay m n k o → Readable m n e o
readable_in m n k e earlier (Input v) o = o
readable_in m n k e earlier (Record r) o = earlier r o.0 o.1
readable_in m n k e earlier (Constant c) o = o

pub fine_ordered : (m : Model) (n k : ℕ) (e : List ℕ) (is : List Instruction) → ((r : ℕ) → 1 ≤ r → r < k → In r e) → ((r : ℕ) → In r e → r < k) → 1 ≤ k → k + length is ≤ 65 → Fine m n k is → Ordered m n e (numbered k is)
fine_ordered m n k e [] all only low high f = tt
fine_ordered m n k e (i ∷ is) all only low high f = (
  low,
  omega arith,
  not_T (has k e) (λ h. let z = only k h in omega arith),
  all_weaker (Okay m n k) (Readable m n e) (readable_in m n k e all) (reads i) f.0,
  fine_ordered m n (suc k) (k ∷ e) is more fewer (omega arith) (omega arith) f.1,
)
  where
    more : (r : ℕ) → 1 ≤ r → r < suc k → In r (k ∷ e)
    more r low h = ⊎_elim (λ same. in_here r k e same) (λ other. in_there r k e (all r low (omega arith))) (same? r k)

    fewer : (r : ℕ) → In r (k ∷ e) → r < suc k
    fewer r h = ⊎_elim (λ same. omega arith) (λ old. let z = only r old in omega arith) (in_cases r k e h)

pub length_numbered : (k : ℕ) (is : List Instruction) → length (numbered k is) ≡ length is
length_numbered k [] = refl
length_numbered k (i ∷ is) = ap suc (length_numbered (suc k) is)

pub in_numbered : (k : ℕ) (is : List Instruction) (r : ℕ) → k ≤ r → r < k + length is → In r (records (numbered k is))
in_numbered k [] r low high = absurd (omega arith)
in_numbered k (i ∷ is) r low high = ⊎_elim (λ same. in_here r k (records (numbered (suc k) is)) same) (λ other. in_there r k (records (numbered (suc k) is)) (in_numbered (suc k) is r (omega arith) (omega arith))) (same? r k)

-- an operand of the instruction at k reads no record from k on
reads_none : (m : Model) (n k r : ℕ) (os : List Operand) → All (Okay m n k) os → k ≤ r → T (any_reads (r ∷ []) os) → ⊥
reads_none m n k r [] a h t = t
reads_none m n k r (Input v ∷ os) a h t = reads_none m n k r os a.1 h t
reads_none m n k r (Constant c ∷ os) a h t = reads_none m n k r os a.1 h t
reads_none m n k r (Record q ∷ os) a h t = go (eqb q r) (eqb→eq q r) (reads_none m n k r os a.1 h) t
  where
    go : (b : Bool) → (T b → q ≡ r) → (T (any_reads (r ∷ []) os) → ⊥) → T (b || false || any_reads (r ∷ []) os) → ⊥
    go true same rest t = let z = same tt in let w = a.0.1 in omega arith
    go false same rest t = rest t

module _ (m : Model) (n : ℕ) (whole : List Placed) where
  later_read : (k : ℕ) (is : List Instruction) → Fine m n k is → ((r : ℕ) → k ≤ r → T (read_in r whole) → T (read_in r (numbered k is))) →
      All (λ x. T (read_in x.at whole)) (front (numbered k is)) → AllRead (numbered k is)
  later_read k [] f only h = tt
  later_read k (i ∷ []) f only h = tt
  later_read k (i ∷ j ∷ is) f only h = (beyond k (omega arith) h.0, later_read (suc k) (j ∷ is) f.1 (λ r low. beyond r (omega arith)) h.1)
    where
      skip : (r : ℕ) → (b c : Bool) → (T b → ⊥) → T (b || c) → T c
      skip r true c never t = absurd (never tt)
      skip r false c never t = t

      beyond : (r : ℕ) → k ≤ r → T (read_in r whole) → T (read_in r (numbered (suc k) (j ∷ is)))
      beyond r low t = skip r (any_reads (r ∷ []) (reads i)) (read_in r (numbered (suc k) (j ∷ is))) (reads_none m n k r (reads i) f.0 low) (only r low t)

-- every instruction but the last is read by a later one, where none is unread
pub all_read : (m : Model) (n : ℕ) (is : List Instruction) → Fine m n 1 is → some_unread (numbered 1 is) ≡ false → AllRead (numbered 1 is)
all_read m n is f e =
    let xs = numbered 1 is in
    later_read m n xs 1 is f (λ r low t. t) (all_weaker (λ x. not (read_in x.at xs) ≡ false) (λ x. T (read_in x.at xs)) (λ x. not_fails (read_in x.at xs)) (front xs) (none_of (λ x. not (read_in x.at xs)) (front xs) e))
