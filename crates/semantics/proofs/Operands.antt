-- The operands that an instruction reads. Assumes nothing.
use Rattle.std.proofs.Common.{◌≡◌, ℕ, ◌<◌, not, T, eqb, ◌⊎◌, List, [], ◌∷◌, refl, ap, subst, inl, inr, ⊎_elim, eqb→eq}
use Rattle.domain.specs.Model.{Model}
use Rattle.semantics.specs.Programs.{has, Readable, All}
use Rattle.semantics.specs.Rules.{reads_one, any_reads, reads_variable, Match, Agrees, Agree}
use Rattle.semantics.specs.declared.Operand.{Operand}
use Rattle.semantics.specs.declared.Operand.TheVariants.{Input, Record, Constant}
use Rattle.semantics.proofs.Members.{either_passes, not_either, In, in_cases, not_in}

-- an operand is among some
abbrev pub Occurs : Operand → List Operand → Type 0
Occurs o [] = ⊥
Occurs o (x ∷ xs) = (x ≡ o) ⊎ Occurs o xs

pub all_occurs : (P : Operand → Type 0) (os : List Operand) → All P os → (o : Operand) → Occurs o os → P o
all_occurs P [] h o s = absurd s
all_occurs P (x ∷ xs) h o (inl e) = subst P e h.0
all_occurs P (x ∷ xs) h o (inr s) = all_occurs P xs h.1 o s

pub reads_occurs : (k : ℕ) (os : List Operand) → T (any_reads (k ∷ []) os) → Occurs (Record k) os
reads_occurs k [] t = absurd t
reads_occurs k (Input v ∷ os) t = inr (reads_occurs k os t)
reads_occurs k (Record r ∷ os) t = ⊎_elim (λ h. inl (ap Record (⊎_elim (λ e. e) (λ n. absurd n) (in_cases r k [] h)))) (λ h. inr (reads_occurs k os h)) (either_passes (has r (k ∷ [])) (any_reads (k ∷ []) os) t)
reads_occurs k (Constant c ∷ os) t = inr (reads_occurs k os t)

pub variable_occurs : (v : ℕ) (os : List Operand) → T (reads_variable v os) → Occurs (Input v) os
variable_occurs v [] t = absurd t
variable_occurs v (Input k ∷ os) t = ⊎_elim (λ h. inl (ap Input (eqb→eq k v h))) (λ h. inr (variable_occurs v os h)) (either_passes (eqb k v) (reads_variable v os) t)
variable_occurs v (Record r ∷ os) t = inr (variable_occurs v os t)
variable_occurs v (Constant c ∷ os) t = inr (variable_occurs v os t)

-- an operand of the source has its fellow in the match
pub fellow : (w : Match) (ss os : List Operand) → Agree w ss os → (s : Operand) → Occurs s ss → (o : Operand) × Occurs o os × Agrees w s o
fellow w [] os a s there = absurd there
fellow w (x ∷ ss) [] a s there = absurd a
fellow w (x ∷ ss) (y ∷ os) a s (inl e) = (y, inl refl, subst (λ z. Agrees w z y) e a.0)
fellow w (x ∷ ss) (y ∷ os) a s (inr t) = let (o, h, g) = fellow w ss os a.1 s t in (o, inr h, g)

-- more records before make no operand unreadable
pub readable_more : (m : Model) (n : ℕ) (d e : List ℕ) → ((q : ℕ) → In q d → In q e) → (o : Operand) → Readable m n d o → Readable m n e o
readable_more m n d e h (Input k) r = r
readable_more m n d e h (Record q) r = h q r
readable_more m n d e h (Constant c) r = r

-- what holds of inputs, of earlier records that stay and of settled constants holds of an operand that may be read and is nothing that goes
module _ (m : Model) (n : ℕ) (e gone : List ℕ) (P : Operand → Type 0) (inputs : (k : ℕ) → k < n → P (Input k)) (stay : (k : ℕ) → In k e → (In k gone → ⊥) → P (Record k)) (constants : (c : ℕ) → T (m.settled c) → P (Constant c)) where
  pub untouched : (o : Operand) → T (not (reads_one gone o)) → Readable m n e o → P o
  untouched (Input k) t r = inputs k r
  untouched (Record k) t r = stay k r (not_in k gone t)
  untouched (Constant c) t r = constants c r

  pub all_untouched : (os : List Operand) → T (not (any_reads gone os)) → All (Readable m n e) os → All P os
  all_untouched [] t a = tt
  all_untouched (o ∷ os) t a =
      let (here, rest) = not_either (reads_one gone o) (any_reads gone os) t in
      (untouched o here a.0, all_untouched os rest a.1)
