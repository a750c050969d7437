-- A run by one valuation of all its records. Assumes nothing.
use Rattle.std.proofs.Common.{◌≡◌, ℕ, zero, suc, ◌<◌, Bool, true, false, cond, not, T, ◌⊎◌, List, [], ◌∷◌, get_or, sym, refl, ap, ◌∙◌, inl, inr, ⊎_elim, arith, Ok}
use mathlib.Core.Path.{subst⁻¹}
use Rattle.domain.specs.Model.{Model, Lawful, Outcome, trap}
use Rattle.semantics.specs.Programs.{Kind, binary, copying, freezing, selecting, kind, freeze_kind, Placed, Env, put, value, step_of, step, is_freeze, head, tail, and_then, run, reads, has, records, Readable, All, Ordered}
use Rattle.semantics.specs.Rules.{Stands}
use Rattle.semantics.specs.declared.Operand.{Operand}
use Rattle.semantics.specs.declared.Operand.TheVariants.{Input, Record, Constant}
use Rattle.semantics.specs.declared.Instruction.{Instruction}
use Rattle.semantics.proofs.Members.{In, in_first, in_there, in_cases, unlike, Each, each_head, each_tail, each_cons, in_onwards, all_weaker}
use Rattle.semantics.proofs.Steps.{code_of, step_same, step_code}
use Rattle.semantics.proofs.Choices.{put_same, put_other, gather}

-- each record of the body has the value that its instruction gives under ρ itself, where a trap counts as 0
abbrev pub Solves : Model → List ℕ → Env → (ℕ → ℕ) → List Placed → Type 0
Solves m ins ρ f xs = Each xs (λ r i. ρ r ≡ code_of (step m (value ins ρ) i (f r)))

-- valuations that agree on the earlier records agree on what may be read
value_same : (m : Model) (n : ℕ) (e ins : List ℕ) (ρ σ : Env) → ((k : ℕ) → In k e → ρ k ≡ σ k) → (o : Operand) → Readable m n e o → value ins ρ o ≡ value ins σ o
value_same m n e ins ρ σ h (Input k) r = refl
value_same m n e ins ρ σ h (Record k) r = h k r
value_same m n e ins ρ σ h (Constant c) r = refl

step_near : (m : Model) (n : ℕ) (e ins : List ℕ) (ρ σ : Env) → ((k : ℕ) → In k e → ρ k ≡ σ k) → (i : Instruction) (c : ℕ) → All (Readable m n e) (reads i) → step m (value ins ρ) i c ≡ step m (value ins σ) i c
step_near m n e ins ρ σ h i c a = step_same m (value ins ρ) (value ins σ) i c (all_weaker (Readable m n e) _ (value_same m n e ins ρ σ h) (reads i) a)

-- every body in order has a solution, which keeps the values of the records before
pub solution : (m : Model) (n : ℕ) (ins : List ℕ) (f : ℕ → ℕ) (e : List ℕ) (xs : List Placed) → Ordered m n e xs → (start : Env) → (ρ : Env) × Solves m ins ρ f xs × ((k : ℕ) → In k e → ρ k ≡ start k)
solution m n ins f e [] o start = (start, λ r i s. absurd s, λ k h. refl)
solution m n ins f e (x ∷ xs) o start =
    let v = code_of (step m (value ins start) x.what (f x.at)) in
    let (ρ, solves, kept) = solution m n ins f (x.at ∷ e) xs o.4 (put start x.at v) in
    let before : (k : ℕ) → In k e → ρ k ≡ start k = λ k h. kept k (in_there k x.at e h) ∙ put_other start x.at v k (unlike x.at e o.2 k h) in
    let here = kept x.at (in_first x.at e) ∙ put_same start x.at v x.at refl ∙ sym (ap code_of (step_near m n e ins ρ start before x.what (f x.at) o.3)) in
    (ρ, each_cons (λ r i. ρ r ≡ code_of (step m (value ins ρ) i (f r))) x xs here solves, before)

-- how a run ends whose body ρ solves: no instruction traps and the result's value is the outcome, or one does and so does the run
pub data Ends (m : Model) (ins : List ℕ) (ρ : Env) (f : ℕ → ℕ) (xs : List Placed) (result : ℕ) (o : Outcome) : Type 0 where
  goes : Each xs (λ r i. step m (value ins ρ) i (f r) ≡ Ok (ρ r)) → o ≡ Ok (ρ result) → Ends m ins ρ f xs result o
  traps : (r : ℕ) (i : Instruction) → Stands xs r i → step m (value ins ρ) i (f r) ≡ trap → o ≡ trap → Ends m ins ρ f xs result o

-- the choice at hand is the instruction's own, and the others are left
choice_of : (k : Kind) (m : Model) (u : Operand → ℕ) (i : Instruction) (c : ℕ) (cs : List ℕ) → step_of k m u i (head (cond (freeze_kind k) (c ∷ cs) cs)) ≡ step_of k m u i c
choice_of binary m u i c cs = refl
choice_of copying m u i c cs = refl
choice_of freezing m u i c cs = refl
choice_of selecting m u i c cs = refl

rest_of : (b : Bool) (c : ℕ) (cs : List ℕ) → cond b (tail (cond b (c ∷ cs) cs)) (cond b (c ∷ cs) cs) ≡ cs
rest_of true c cs = refl
rest_of false c cs = refl

run_next : (m : Model) (ins : List ℕ) (result : ℕ) (x : Placed) (xs : List Placed) (ρ : Env) (f : ℕ → ℕ) → run m ins result (x ∷ xs) ρ (gather (x ∷ xs) f) ≡ and_then (step m (value ins ρ) x.what (f x.at)) (λ v. run m ins result xs (put ρ x.at v) (gather xs f))
run_next m ins result x xs ρ f =
    let own = choice_of (kind x.what.operation) m (value ins ρ) x.what (f x.at) (gather xs f) in
    let others = rest_of (is_freeze x.what) (f x.at) (gather xs f) in
    λ j. and_then (own j) (λ v. run m ins result xs (put ρ x.at v) (others j))

put_agrees : (e : List ℕ) (ρ σ : Env) (r v : ℕ) → ((k : ℕ) → In k e → ρ k ≡ σ k) → v ≡ σ r → T (not (has r e)) → (k : ℕ) → In k (r ∷ e) → put ρ r v k ≡ σ k
put_agrees e ρ σ r v h p new k i =
    ⊎_elim
    (λ same. put_same ρ r v k same ∙ p ∙ ap σ (sym same))
    (λ old. put_other ρ r v k (unlike r e new k old) ∙ h k old)
    (in_cases k r e i)

module _ (m : Model) (n : ℕ) (ins : List ℕ) (ρ : Env) (f : ℕ → ℕ) (result : ℕ) where
  -- a run whose body ρ solves has the values of ρ
  pub ends : (e : List ℕ) (xs : List Placed) → Ordered m n e xs → Solves m ins ρ f xs → (start : Env) → ((k : ℕ) → In k e → start k ≡ ρ k) → In result e ⊎ In result (records xs) → Ends m ins ρ f xs result (run m ins result xs start (gather xs f))
  ends e [] o solves start agree (inl old) = goes (λ r i s. absurd s) (ap Ok (agree result old))
  ends e [] o solves start agree (inr new) = absurd new
  ends e (x ∷ xs) o solves start agree there = go (step m (value ins ρ) x.what (f x.at)) refl (λ v p. ends (x.at ∷ e) xs o.4 (each_tail x xs solves) (put start x.at v) (put_agrees e start ρ x.at v agree p o.2) (in_onwards result e x xs there))
    where
      first : step m (value ins start) x.what (f x.at) ≡ step m (value ins ρ) x.what (f x.at)
      first = step_near m n e ins start ρ agree x.what (f x.at) o.3

      after : (s : Outcome) → step m (value ins ρ) x.what (f x.at) ≡ s → run m ins result (x ∷ xs) start (gather (x ∷ xs) f) ≡ and_then s (λ v. run m ins result xs (put start x.at v) (gather xs f))
      after s q = run_next m ins result x xs start f ∙ ap (λ z. and_then z (λ v. run m ins result xs (put start x.at v) (gather xs f))) (first ∙ q)

      go : (s : Outcome) → step m (value ins ρ) x.what (f x.at) ≡ s → ((v : ℕ) → v ≡ ρ x.at → Ends m ins ρ f xs result (run m ins result xs (put start x.at v) (gather xs f))) → Ends m ins ρ f (x ∷ xs) result (run m ins result (x ∷ xs) start (gather (x ∷ xs) f))
      go trap q rest = traps x.at x.what (inl (refl, refl)) q (after trap q)
      go (Ok v) q rest =
          let is : ρ x.at ≡ v = each_head x xs solves ∙ ap code_of q in
          elim (rest v (sym is)) [
            | goes all end ↦ goes (each_cons (λ r i. step m (value ins ρ) i (f r) ≡ Ok (ρ r)) x xs (q ∙ ap Ok (sym is)) all) (after (Ok v) q ∙ end)
            | traps r i s t end ↦ traps r i (inr s) t (after (Ok v) q ∙ end)
          ]

module _ (m : Model) (law : Lawful m) (n : ℕ) (ins : List ℕ) (codes : All (λ c. c < m.size) ins) where
  -- an input is a code
  pub input_code : (k : ℕ) → get_or ins k 0 < m.size
  input_code k = go ins codes k
    where
      go : (xs : List ℕ) → All (λ c. c < m.size) xs → (k : ℕ) → get_or xs k 0 < m.size
      go [] a k = omega (arith, law.least_size)
      go (x ∷ xs) a zero = a.0
      go (x ∷ xs) a (suc k) = go xs a.1 k

  -- what may be read is a code where the earlier records hold codes
  pub value_code : (ρ : Env) (e : List ℕ) → ((k : ℕ) → In k e → ρ k < m.size) → (o : Operand) → Readable m n e o → value ins ρ o < m.size
  value_code ρ e h (Input k) r = input_code k
  value_code ρ e h (Record k) r = h k r
  value_code ρ e h (Constant c) r = law.settled_code c r

  -- a solution holds codes
  pub solved_code : (ρ : Env) (f : ℕ → ℕ) → ((r : ℕ) → T (m.settled (f r))) → (e : List ℕ) (xs : List Placed) → Ordered m n e xs → Solves m ins ρ f xs → ((k : ℕ) → In k e → ρ k < m.size) → (k : ℕ) → In k (records xs) → ρ k < m.size
  solved_code ρ f s e [] o solves h k new = absurd new
  solved_code ρ f s e (x ∷ xs) o solves h k new =
      let here : ρ x.at < m.size = subst⁻¹ (λ v. v < m.size) (each_head x xs solves) (step_code m law (value ins ρ) x.what (f x.at) (s x.at) (all_weaker (Readable m n e) _ (value_code ρ e h) (reads x.what) o.3)) in
      let so_far : (k : ℕ) → In k (x.at ∷ e) → ρ k < m.size = λ k i. ⊎_elim (λ same. subst⁻¹ (λ z. ρ z < m.size) same here) (h k) (in_cases k x.at e i) in
      ⊎_elim (λ same. subst⁻¹ (λ z. ρ z < m.size) same here) (solved_code ρ f s (x.at ∷ e) xs o.4 (each_tail x xs solves) so_far k) (in_cases k x.at (records xs) new)
