-- What one instruction gives where its operands agree, or refine. Assumes nothing.
use Rattle.std.proofs.Common.{◌≡◌, ℕ, ◌<◌, Bool, true, false, cond, T, sym, refl, ap, ◌∙◌, subst, arith, Ok}
use mathlib.Core.Path.{subst⁻¹}
use Rattle.domain.specs.Model.{Model, Lawful, OutcomeRefines, Outcome, trap}
use Rattle.semantics.specs.Programs.{Kind, binary, copying, freezing, selecting, kind, pick, step_of, step, reads_of, reads, All}
use Rattle.semantics.specs.Rules.{Match, Agrees, Agree, Alike}
use Rattle.semantics.specs.declared.Operand.{Operand}
use Rattle.semantics.specs.declared.Instruction.{Instruction}
use Rattle.domain.specs.declared.Truth.{Truth}
use Rattle.domain.specs.declared.Truth.TheVariants.{Yes, No, Neither}

-- the value that an outcome leaves in its record, where a trap counts as 0
abbrev pub code_of : Outcome → ℕ
code_of (Ok v) = v
code_of trap = 0

-- instructions that agree give the same
agrees_of : (k : Kind) (m : Model) (w : Match) (u v : Operand → ℕ) (s i : Instruction) (c : ℕ) → i.operation ≡ s.operation → i.marks ≡ s.marks → Agree w (reads_of k s) (reads_of k i) → All (λ o. (o' : Operand) → Agrees w o o' → u o' ≡ v o) (reads_of k s) → step_of k m u i c ≡ step_of k m v s c
agrees_of binary m w u v s i c e f a h =
    let p = h.0 i.first a.0 in
    let q = h.1.0 i.second a.1.0 in
    λ j. m.compute (e j) (f j).bits (p j) (q j)
agrees_of copying m w u v s i c e f a h = ap Ok (h.0 i.first a.0)
agrees_of freezing m w u v s i c e f a h = ap (λ x. Ok (cond (m.settled x) x c)) (h.0 i.first a.0)
agrees_of selecting m w u v s i c e f a h =
    let p = h.0 i.first a.0 in
    let q = h.1.0 i.second a.1.0 in
    let t = h.1.1.0 i.third a.1.1.0 in
    λ j. Ok (pick (m.truth (p j)) (q j) (t j) m.worst)

pub step_agrees : (m : Model) (w : Match) (u v : Operand → ℕ) (s i : Instruction) (c : ℕ) → Alike w s i → All (λ o. (o' : Operand) → Agrees w o o' → u o' ≡ v o) (reads s) → step m u i c ≡ step m v s c
step_agrees m w u v s i c (e, f, a) h =
    subst⁻¹ (λ op. step_of (kind op) m u i c ≡ step m v s c) e
    (agrees_of (kind s.operation) m w u v s i c e f (subst (λ op. Agree w (reads s) (reads_of (kind op) i)) e a) h)

-- one instruction at equal operands
same_of : (k : Kind) (m : Model) (u v : Operand → ℕ) (i : Instruction) (c : ℕ) → All (λ o. u o ≡ v o) (reads_of k i) → step_of k m u i c ≡ step_of k m v i c
same_of binary m u v i c h = λ j. m.compute i.operation i.marks.bits (h.0 j) (h.1.0 j)
same_of copying m u v i c h = ap Ok h.0
same_of freezing m u v i c h = ap (λ x. Ok (cond (m.settled x) x c)) h.0
same_of selecting m u v i c h = λ j. Ok (pick (m.truth (h.0 j)) (h.1.0 j) (h.1.1.0 j) m.worst)

pub step_same : (m : Model) (u v : Operand → ℕ) (i : Instruction) (c : ℕ) → All (λ o. u o ≡ v o) (reads i) → step m u i c ≡ step m v i c
step_same m u v i c h = same_of (kind i.operation) m u v i c h

-- a freeze gives something settled
pub frozen : (m : Model) (a c : ℕ) → T (m.settled c) → T (m.settled (cond (m.settled a) a c))
frozen m a c s = go (m.settled a) (λ t. t)
  where
    go : (b : Bool) → (T b → T (m.settled a)) → T (m.settled (cond b a c))
    go true t = t tt
    go false t = s

-- a freeze that takes the choice `d`, after one that takes `c` and gave what is settled
abbrev pub Follows : Model → Outcome → ℕ → Type 0
Follows m o d = T (m.settled (code_of o)) → d ≡ code_of o

-- the following run has the same value where the operands are the same
follows_of : (k : Kind) (m : Model) (u v : Operand → ℕ) (i : Instruction) (c d : ℕ) → T (m.settled c) → Follows m (step_of k m u i c) d → All (λ o. u o ≡ v o) (reads_of k i) → step_of k m u i c ≡ step_of k m v i d
follows_of binary m u v i c d s f h = same_of binary m u v i c h
follows_of copying m u v i c d s f h = same_of copying m u v i c h
follows_of freezing m u v i c d s f h = go (m.settled (u i.first)) (f (frozen m (u i.first) c s)) ∙ same_of freezing m u v i d h
  where
    go : (b : Bool) → d ≡ cond b (u i.first) c → ◌≡◌ {A = Outcome} (Ok (cond b (u i.first) c)) (Ok (cond b (u i.first) d))
    go true e = refl
    go false e = ap Ok (sym e)
follows_of selecting m u v i c d s f h = same_of selecting m u v i c h

pub step_follows : (m : Model) (u v : Operand → ℕ) (i : Instruction) (c d : ℕ) → T (m.settled c) → Follows m (step m u i c) d → All (λ o. u o ≡ v o) (reads i) → step m u i c ≡ step m v i d
step_follows m u v i c d s f h = follows_of (kind i.operation) m u v i c d s f h

module _ (m : Model) (law : Lawful m) where
  -- a freeze that follows gives what is refined
  freeze_mono : (a b c d : ℕ) → T (m.settled c) → d ≡ cond (m.settled a) a c → T (m.refines a b) → T (m.refines (cond (m.settled a) a c) (cond (m.settled b) b d))
  freeze_mono a b c d s e h = go (m.settled a) (m.settled b) e (law.settled_down a b h) (law.refines_refl _ (law.settled_code _ (frozen m a c s)))
    where
      go : (x y : Bool) → d ≡ cond x a c → (T y → T x) → T (m.refines (cond x a c) (cond x a c)) → T (m.refines (cond x a c) (cond y b d))
      go true true e down same = h
      go false true e down same = absurd (down tt)
      go x false e down same = subst⁻¹ (λ z. T (m.refines (cond x a c) z)) e same

  -- a select at refining operands
  select_mono : (a b a1 b1 a2 b2 : ℕ) → T (m.refines a b) → T (m.refines a1 b1) → T (m.refines a2 b2) → T (m.refines (pick (m.truth a) a1 a2 m.worst) (pick (m.truth b) b1 b2 m.worst))
  select_mono a b a1 b1 a2 b2 h h1 h2 = go (m.truth a) (m.truth b) (law.truth_yes a b h) (law.truth_no a b h) (law.worst_top b (law.refines_codes a b h).1)
    where
      code : (t : Truth) → pick t a1 a2 m.worst < m.size
      code Yes = (law.refines_codes a1 b1 h1).0
      code No = (law.refines_codes a2 b2 h2).0
      code Neither = law.worst_code

      go : (x y : Truth) → (y ≡ Yes → x ≡ Yes) → (y ≡ No → x ≡ No) → (y ≡ Neither → (c : ℕ) → c < m.size → T (m.refines c m.worst)) → T (m.refines (pick x a1 a2 m.worst) (pick y b1 b2 m.worst))
      go x Yes yes-too no-too top = subst⁻¹ (λ z. T (m.refines (pick z a1 a2 m.worst) b1)) (yes-too refl) h1
      go x No yes-too no-too top = subst⁻¹ (λ z. T (m.refines (pick z a1 a2 m.worst) b2)) (no-too refl) h2
      go x Neither yes-too no-too top = top refl (pick x a1 a2 m.worst) (code x)

  mono_of : (k : Kind) (u v : Operand → ℕ) (i : Instruction) (c d : ℕ) → T (m.settled c) → Follows m (step_of k m u i c) d → All (λ o. T (m.refines (u o) (v o))) (reads_of k i) → OutcomeRefines m (step_of k m u i c) (step_of k m v i d)
  mono_of binary u v i c d s f h = law.compute_mono i.operation i.marks.bits _ _ _ _ h.0 h.1.0
  mono_of copying u v i c d s f h = h.0
  mono_of freezing u v i c d s f h = freeze_mono (u i.first) (v i.first) c d s (f (frozen m (u i.first) c s)) h.0
  mono_of selecting u v i c d s f h = select_mono _ _ _ _ _ _ h.0 h.1.0 h.1.1.0

  -- the following run gives what is refined where the operands are
  pub step_mono : (u v : Operand → ℕ) (i : Instruction) (c d : ℕ) → T (m.settled c) → Follows m (step m u i c) d → All (λ o. T (m.refines (u o) (v o))) (reads i) → OutcomeRefines m (step m u i c) (step m v i d)
  step_mono u v i c d s f h = mono_of (kind i.operation) u v i c d s f h

  code_of_compute : (o : Outcome) → ((v : ℕ) → o ≡ Ok v → v < m.size) → code_of o < m.size
  code_of_compute (Ok v) h = h v refl
  code_of_compute trap h = omega (arith, law.least_size)

  codes_of : (k : Kind) (u : Operand → ℕ) (i : Instruction) (c : ℕ) → T (m.settled c) → All (λ o. u o < m.size) (reads_of k i) → code_of (step_of k m u i c) < m.size
  codes_of binary u i c s h = code_of_compute _ (law.compute_code i.operation i.marks.bits (u i.first) (u i.second))
  codes_of copying u i c s h = h.0
  codes_of freezing u i c s h = law.settled_code _ (frozen m (u i.first) c s)
  codes_of selecting u i c s h = go (m.truth (u i.first))
    where
      go : (t : Truth) → pick t (u i.second) (u i.third) m.worst < m.size
      go Yes = h.1.0
      go No = h.1.1.0
      go Neither = law.worst_code

  -- an instruction over codes gives a code
  pub step_code : (u : Operand → ℕ) (i : Instruction) (c : ℕ) → T (m.settled c) → All (λ o. u o < m.size) (reads i) → code_of (step m u i c) < m.size
  step_code u i c s h = codes_of (kind i.operation) u i c s h
