-- The first fault of a rising list of tests is the smallest. Assumes nothing.
use Rattle.std.proofs.Common.{◌≡◌, ℕ, ◌<◌, ◌≤◌, Bool, true, false, T, ltb, ◌⊎◌, List, [], ◌∷◌, length, Some, None, Option, sym, refl, ap, inl, inr, ⊎_elim, arith}
use mathlib.Core.Path.{subst⁻¹}
use Rattle.std.proofs.lemmas.Bool.{cases_lt}
use Rattle.domain.specs.Model.{Model}
use Rattle.scan.specs.Pieces.{Bytes}
use Rattle.text.specs.Forms.{Written}
use Rattle.text.specs.Faults.{first_of}
use Rattle.text.specs.Instructions.{Names, number_outside, name_wrong, bad_marks, code_missing, instruction_fault}
use Rattle.text.specs.ProgramTexts.{twice, inputs_fault}
use Rattle.text.specs.Refused.{Faulty, number_fault, count_fault, name_fault, mark_fault, code_fault, InputsFaulty, ninth_input, input_twice, Least, Smallest, SmallestTold}
use Rattle.text.proofs.Tests.{no_some}

-- tests under their numbers: one of them passes, the first that does, and that the numbers rise
abbrev Passes : List (ℕ × Bool) → ℕ → Type 0
Passes [] k = ⊥
Passes (t ∷ ts) k = ((k ≡ t.0) × T t.1) ⊎ Passes ts k

abbrev first_passing : List (ℕ × Bool) → Option ℕ
first_passing [] = None
first_passing (t ∷ ts) = first_of t.1 t.0 (first_passing ts)

abbrev Rising : ℕ → List (ℕ × Bool) → Type 0
Rising n [] = Unit {0}
Rising n (t ∷ ts) = (n < t.0) × Rising t.0 ts

passes_above : (n : ℕ) (ts : List (ℕ × Bool)) → Rising n ts → (k : ℕ) → Passes ts k → n < k
passes_above n (t ∷ ts) r k (inl p) = let e = p.0 in let l = r.0 in omega arith
passes_above n (t ∷ ts) r k (inr p) = let h = passes_above t.0 ts r.1 k p in let l = r.0 in omega arith
passes_above n [] r k p = absurd p

-- an answer is the least number with a property, or tells that no number has it
record Exact (P : ℕ → Type 0) (o : Option ℕ) : Type 0 where
  least : (k : ℕ) → o ≡ Some k → Least P k
  none : o ≡ None → (k : ℕ) → P k → ⊥

exact_first : (n : ℕ) (b : Bool) (ts : List (ℕ × Bool)) → Rising n ts → Exact (Passes ts) (first_passing ts) → Exact (Passes ((n, b) ∷ ts)) (first_of b n (first_passing ts))
exact_first n true ts r x = record {
  least = λ k e. let same : n ≡ k = cc in (inl (sym same, tt), λ j low p. let z : n ≤ j = ⊎_elim (λ q. let z = q.0 in omega arith) (λ q. let z = passes_above n ts r j q in omega arith) p in omega arith);
  none = λ e. absurd (no_some e);
}
exact_first n false ts r x = record {
  least = λ k e. let (p, lower) = x.least k e in (inr p, λ j low p. ⊎_elim (λ q. q.1) (λ q. lower j low q) p);
  none = λ e k p. ⊎_elim (λ q. q.1) (λ q. x.none e k q) p;
}

exact : (n : ℕ) (ts : List (ℕ × Bool)) → Rising n ts → Exact (Passes ts) (first_passing ts)
exact n [] r = record { least = λ k e. absurd (no_some (sym e)); none = λ e k p. p }
exact n (t ∷ ts) r = exact_first t.0 t.1 ts r.1 (exact t.0 ts r.1)

-- an exact answer is the smallest number
smallest_of : (P : ℕ → Type 0) (o : Option ℕ) → Exact P o → Smallest P o
smallest_of P None x = record {
  some = λ k. (λ e. x.least k e, λ l. absurd (x.none refl k l.0));
  none = (λ e. x.none e, λ h. refl);
}
smallest_of P (Some i) x = record {
  some = λ k. (λ e. x.least k e, λ l. ap Some (same k l));
  none = (λ e. x.none e, λ h. absurd (h i (x.least i refl).0));
}
  where
    same : (k : ℕ) → Least P k → i ≡ k
    same k l =
        let (p, lower) = x.least i refl in
        ⊎_elim (λ a. absurd (l.1 i a p)) (λ a. ⊎_elim (λ b. absurd (lower k b l.0)) (λ b. omega arith) (cases_lt k i)) (cases_lt i k)

-- a property that says that one of the tests passes
smallest_passing : (P : ℕ → Type 0) (ts : List (ℕ × Bool)) → Rising 0 ts → ((k : ℕ) → P k → Passes ts k) → ((k : ℕ) → Passes ts k → P k) → Smallest P (first_passing ts)
smallest_passing P ts r to from =
    let x = exact 0 ts r in
    smallest_of P (first_passing ts) (record {
      least = λ k e. let (p, lower) = x.least k e in (from k p, λ j low p. lower j low (to j p));
      none = λ e k p. x.none e k (to k p);
    })

module _ (m : Model) (too_many : Bool) (ns : Names) (w : Written) where
  abbrev line_tests : List (ℕ × Bool)
  line_tests = (3, number_outside w) ∷ (4, too_many) ∷ (5, name_wrong ns w) ∷ (6, bad_marks w.operation w.marks) ∷ (7, code_missing m w) ∷ []

  line_to : (k : ℕ) → Faulty m too_many ns w k → Passes line_tests k
  line_to k (number_fault t) = inl (refl, t)
  line_to k (count_fault t) = inr (inl (refl, t))
  line_to k (name_fault t) = inr (inr (inl (refl, t)))
  line_to k (mark_fault t) = inr (inr (inr (inl (refl, t))))
  line_to k (code_fault t) = inr (inr (inr (inr (inl (refl, t)))))

  line_from : (k : ℕ) → Passes line_tests k → Faulty m too_many ns w k
  line_from k (inl p) = subst⁻¹ (Faulty m too_many ns w) p.0 (number_fault p.1)
  line_from k (inr (inl p)) = subst⁻¹ (Faulty m too_many ns w) p.0 (count_fault p.1)
  line_from k (inr (inr (inl p))) = subst⁻¹ (Faulty m too_many ns w) p.0 (name_fault p.1)
  line_from k (inr (inr (inr (inl p)))) = subst⁻¹ (Faulty m too_many ns w) p.0 (mark_fault p.1)
  line_from k (inr (inr (inr (inr (inl p))))) = subst⁻¹ (Faulty m too_many ns w) p.0 (code_fault p.1)
  line_from k (inr (inr (inr (inr (inr p))))) = absurd p

  pub instruction_smallest : Smallest (Faulty m too_many ns w) (instruction_fault m too_many ns w)
  instruction_smallest = smallest_passing (Faulty m too_many ns w) line_tests (omega arith, (omega arith, (omega arith, (omega arith, (omega arith, tt))))) line_to line_from

module _ (ns : List Bytes) where
  abbrev in_tests : List (ℕ × Bool)
  in_tests = (4, ltb 8 (length ns)) ∷ (5, twice ns) ∷ []

  in_to : (k : ℕ) → InputsFaulty ns k → Passes in_tests k
  in_to k (ninth_input t) = inl (refl, t)
  in_to k (input_twice t) = inr (inl (refl, t))

  in_from : (k : ℕ) → Passes in_tests k → InputsFaulty ns k
  in_from k (inl p) = subst⁻¹ (InputsFaulty ns) p.0 (ninth_input p.1)
  in_from k (inr (inl p)) = subst⁻¹ (InputsFaulty ns) p.0 (input_twice p.1)
  in_from k (inr (inr p)) = absurd p

  pub inputs_smallest : Smallest (InputsFaulty ns) (inputs_fault ns)
  inputs_smallest = smallest_passing (InputsFaulty ns) in_tests (omega arith, (omega arith, tt)) in_to in_from

pub smallest_told : (m : Model) → SmallestTold m
smallest_told m = record { instructions = instruction_smallest m; inputs = inputs_smallest }
