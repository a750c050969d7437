-- A side of a rule whose instructions are matched in a body has the body's values. Assumes nothing.
use Rattle.std.proofs.Common.{◌≡◌, ℕ, zero, suc, ◌<◌, List, [], ◌∷◌, length, get_or, sym, refl, ap, ◌∙◌, arith}
use Rattle.domain.specs.Model.{Model}
use Rattle.semantics.specs.Programs.{Placed, Env, value, step, reads, records, Readable, All, Ordered}
use Rattle.semantics.specs.Rules.{Match, Agrees, Alike, Matched}
use Rattle.semantics.specs.declared.Operand.{Operand}
use Rattle.semantics.specs.declared.Operand.TheVariants.{Input, Record, Constant}
use Rattle.semantics.specs.declared.Instruction.{Instruction}
use Rattle.semantics.proofs.Members.{Each, all_weaker}
use Rattle.semantics.proofs.Steps.{code_of, step_agrees}
use Rattle.semantics.proofs.Solutions.{Solves}
use Rattle.semantics.proofs.Order.{before, reads_before}

-- the first n values of a function
abbrev pub listed : ℕ → (ℕ → ℕ) → List ℕ
listed zero g = []
listed (suc n) g = g 0 ∷ listed n (λ k. g (suc k))

pub listed_length : (n : ℕ) (g : ℕ → ℕ) → length (listed n g) ≡ n
listed_length zero g = refl
listed_length (suc n) g = ap suc (listed_length n (λ k. g (suc k)))

pub listed_at : (n : ℕ) (g : ℕ → ℕ) (k : ℕ) → k < n → get_or (listed n g) k 0 ≡ g k
listed_at zero g k h = absurd (omega arith)
listed_at (suc n) g zero h = refl
listed_at (suc n) g (suc k) h = listed_at n (λ k. g (suc k)) k (omega arith)

pub listed_all : (P : ℕ → Type 0) (n : ℕ) (g : ℕ → ℕ) → ((k : ℕ) → k < n → P (g k)) → All P (listed n g)
listed_all P zero g h = tt
listed_all P (suc n) g h = (h 0 (omega arith), listed_all P n (λ k. g (suc k)) (λ k l. h (suc k) (omega arith)))

module _ (m : Model) (w : Match) (ins : List ℕ) (ρ : Env) (n : ℕ) (vars : List ℕ) (var : (v : ℕ) → v < n → get_or vars v 0 ≡ value ins ρ (w.operand_of v)) where
  -- the side's values
  abbrev pub inner : Env
  inner j = ρ (w.record_of j)

  agreed : (e : List ℕ) (o : Operand) → Readable m n e o → (q : Operand) → Agrees w o q → value ins ρ q ≡ value vars inner o
  agreed e (Input v) r q a = ap (value ins ρ) a ∙ sym (var v r)
  agreed e (Record j) r q a = ap (value ins ρ) a
  agreed e (Constant c) r q a = ap (value ins ρ) a

  -- a side's instruction gives what one like it gives
  pub matched_step : (side : List Placed) → Ordered m n [] side → Each side (λ j s. (i : Instruction) → Alike w s i → (c : ℕ) → step m (value ins ρ) i c ≡ step m (value vars inner) s c)
  matched_step side o j s there i alike c =
      step_agrees m w (value ins ρ) (value vars inner) s i c alike (all_weaker (Readable m n (records (before j side))) _ (agreed (records (before j side))) (reads s) (reads_before m n side o j s there))

  pub matched_solves : (f : ℕ → ℕ) (body side : List Placed) → Ordered m n [] side → Each side (λ j s. Matched w body (record { at = j; what = s })) → Solves m ins ρ f body → Solves m vars inner (λ j. f (w.record_of j)) side
  matched_solves f body side o same solves j s there =
      let (i, stands, alike) = same j s there in
      solves (w.record_of j) i stands ∙ ap code_of (matched_step side o j s there i alike (f (w.record_of j)))
