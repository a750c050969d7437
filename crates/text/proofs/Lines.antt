-- An instruction line without a fault reads what it may read. Assumes nothing.
use Rattle.std.proofs.Common.{◌≡◌, ℕ, suc, ◌+◌, Bool, true, false, cond, ◌||◌, T, eqb, List, [], ◌∷◌, ◌++◌, map, length, Some, None, Ok, Err, Option, sym, refl, ap, ◌∙◌, subst, inl, inr, arith, length-append}
use mathlib.Core.Path.{subst⁻¹}
use lib.ListN.{length-map}
use Rattle.std.proofs.lemmas.Bool.{or_parts, or_from, true≢false, eq-eqb}
use Rattle.semantics.specs.declared.Operand.{Operand}
use Rattle.semantics.specs.declared.Operand.TheVariants.{Input, Record, Constant}
use Rattle.vocabulary.specs.declared.operation.Operation.{Operation}
use Rattle.semantics.specs.declared.Instruction.{Instruction}
use Rattle.domain.specs.declared.fault.DomainFault.TheVariants.{NoSettledCode}
use Rattle.domain.specs.Faults.{settled_code, settled_if_any}
use Rattle.domain.specs.Model.{Model}
use Rattle.semantics.specs.Programs.{Kind, binary, copying, freezing, selecting, kind, All, reads_of, reads}
use Rattle.semantics.specs.Rules.{reads_variable, variable_in}
use Rattle.semantics.proofs.Members.{holds}
use Rattle.scan.specs.Pieces.{Bytes}
use Rattle.text.specs.Words.{Argument, a_name, a_number, a_code, any}
use Rattle.vocabulary.specs.Names.{operand_count}
use Rattle.semantics.specs.Operations.{facts}
use Rattle.semantics.proofs.Counts.{reads_count}
use Rattle.text.specs.Forms.{Written}
use Rattle.text.specs.Instructions.{Named, Names, names_of, bodies, place, among, known, constant, named, operand, sum, made, instruction, outside, unreadable, bad_marks, refuses, unsettled, instruction_fault, entered}
use Rattle.text.proofs.Tests.{not_fails, none_first}
use Rattle.text.proofs.Found.{place_below, not_placed, NamesVariable, SomeOf}
use Rattle.text.proofs.Fine.{Okay, Fine, fine_push}

-- an operation's operands are what it reads
reads_made_of : (k : Kind) (op : Operation) (marks : ℕ) (os : List Operand) → length os ≡ length (reads_of k (made op marks os)) → reads_of k (made op marks os) ≡ os
reads_made_of binary op marks (a ∷ b ∷ []) e = refl
reads_made_of binary op marks [] e = absurd (omega arith)
reads_made_of binary op marks (a ∷ []) e = absurd (omega arith)
reads_made_of binary op marks (a ∷ b ∷ c ∷ os) e = absurd (omega arith)
reads_made_of copying op marks (a ∷ []) e = refl
reads_made_of copying op marks [] e = absurd (omega arith)
reads_made_of copying op marks (a ∷ b ∷ os) e = absurd (omega arith)
reads_made_of freezing op marks (a ∷ []) e = refl
reads_made_of freezing op marks [] e = absurd (omega arith)
reads_made_of freezing op marks (a ∷ b ∷ os) e = absurd (omega arith)
reads_made_of selecting op marks (a ∷ b ∷ c ∷ []) e = refl
reads_made_of selecting op marks [] e = absurd (omega arith)
reads_made_of selecting op marks (a ∷ []) e = absurd (omega arith)
reads_made_of selecting op marks (a ∷ b ∷ []) e = absurd (omega arith)
reads_made_of selecting op marks (a ∷ b ∷ c ∷ d ∷ os) e = absurd (omega arith)

pub reads_made : (op : Operation) (marks : ℕ) (os : List Operand) → length os ≡ operand_count op → reads (made op marks os) ≡ os
reads_made op marks os e = reads_made_of (kind op) op marks os (e ∙ sym (reads_count (made op marks os)))

-- a written line with as many operands as its operation takes
abbrev pub Counted : Written → Type 0
Counted w = length w.arguments ≡ operand_count w.operation

pub reads_written : (m : Model) (ns : Names) (w : Written) → Counted w → reads (instruction m ns w) ≡ map (operand m ns) w.arguments
reads_written m ns w c =
    reads_made w.operation ((facts w.operation).unwritten + sum w.marks) (map (operand m ns) w.arguments) (length-map w.arguments (operand m ns) ∙ c)

-- the five tests of a line fail
pub record Faultless (m : Model) (too_many : Bool) (ns : Names) (w : Written) : Type 0 where
  pub inside : any outside w.arguments ≡ false
  pub room : too_many ≡ false
  pub readable : any (unreadable ns) w.arguments ≡ false
  pub free : known ns w.name ≡ false
  pub marked : bad_marks w.operation w.marks ≡ false
  pub settled : any (unsettled m) w.arguments ≡ false

pub faultless : (m : Model) (too_many : Bool) (ns : Names) (w : Written) → instruction_fault m too_many ns w ≡ None → Faultless m too_many ns w
faultless m too_many ns w e =
    let a3 = none_first (any outside w.arguments) 3 _ e in
    let a4 = none_first too_many 4 _ a3.1 in
    let a5 = none_first (any (unreadable ns) w.arguments || known ns w.name) 5 _ a4.1 in
    let a6 = none_first (bad_marks w.operation w.marks) 6 _ a5.1 in
    let a7 = none_first (any (unsettled m) w.arguments) 7 _ a6.1 in
    let p = or_parts (any (unreadable ns) w.arguments) (known ns w.name) a5.0 in
    record { inside = a3.0; room = a4.0; readable = p.0; free = p.1; marked = a6.0; settled = a7.0 }

module _ (m : Model) (ns : Names) where
  -- how many inputs there are, and the place of the line
  abbrev inputs : ℕ
  inputs = length ns.variables

  abbrev here : ℕ
  here = 1 + length ns.instructions

  okay_name : (n : Bytes) (i v : Option ℕ) → place n ns.instructions ≡ i → place n ns.variables ≡ v → known ns n ≡ true → Okay m inputs here (named i v)
  okay_name n (Some j) v p q k = let h = place_below n ns.instructions j p in (omega arith, omega arith)
  okay_name n None (Some v) p q k = place_below n ns.variables v q
  okay_name n None None p q k =
      absurd (true≢false (sym k ∙ or_from (among n ns.instructions) (among n ns.variables) (not_placed n ns.instructions p) (not_placed n ns.variables q)))

  okay_code : (c : ℕ) → refuses (settled_code m c) ≡ false → T (m.settled c)
  okay_code c e = go (m.settled c) e
    where
      go : (b : Bool) → refuses (cond b (Ok c) (Err NoSettledCode)) ≡ false → T b
      go true e = tt
      go false e = absurd (true≢false e)

  okay_constant : (o : Option ℕ) → refuses (settled_if_any m o) ≡ false → Okay m inputs here (constant o)
  okay_constant (Some c) e = okay_code c e
  okay_constant None e = absurd (true≢false e)

  okay : (a : Argument) → unreadable ns a ≡ false → unsettled m a ≡ false → Okay m inputs here (operand m ns a)
  okay (a_name n) e s = okay_name n (place n ns.instructions) (place n ns.variables) refl refl (holds (known ns n) (not_fails (known ns n) e))
  okay (a_number z) e s = okay_constant (m.literal z) s
  okay (a_code c) e s = okay_code c s

  all_okay : (xs : List Argument) → any (unreadable ns) xs ≡ false → any (unsettled m) xs ≡ false → All (Okay m inputs here) (map (operand m ns) xs)
  all_okay [] e s = tt
  all_okay (a ∷ xs) e s =
      let p = or_parts (unreadable ns a) (any (unreadable ns) xs) e in
      let q = or_parts (unsettled m a) (any (unsettled m) xs) s in
      (okay a p.0 q.0, all_okay xs p.1 q.1)

  pub reads_okay : (too_many : Bool) (w : Written) → Counted w → Faultless m too_many ns w → All (Okay m inputs here) (reads (instruction m ns w))
  reads_okay too_many w c f = subst⁻¹ (All (Okay m inputs here)) (reads_written m ns w c) (all_okay w.arguments f.readable f.settled)

  -- a variable among the operands is read
  reads_named : (v : ℕ) (xs : List Argument) → SomeOf (NamesVariable ns.instructions ns.variables v) xs → T (reads_variable v (map (operand m ns) xs))
  reads_named v [] e = absurd e
  reads_named v (a_name n ∷ xs) (inl e) =
      subst⁻¹ (λ o. T (reads_variable v (o ∷ map (operand m ns) xs))) (ap (λ i. named i (place n ns.variables)) e.0 ∙ ap (named None) e.1) (subst⁻¹ (λ b. T (b || reads_variable v (map (operand m ns) xs))) (eq-eqb v v refl) tt)
  reads_named v (a_number z ∷ xs) (inl e) = absurd e
  reads_named v (a_code c ∷ xs) (inl e) = absurd e
  reads_named v (a ∷ xs) (inr e) = go (operand m ns a) (reads_named v xs e)
    where
      go : (o : Operand) → T (reads_variable v (map (operand m ns) xs)) → T (reads_variable v (o ∷ map (operand m ns) xs))
      go (Input k) t = elim (eqb k v) as (λ b. T (b || reads_variable v (map (operand m ns) xs))) [ true ↦ tt | false ↦ t ]
      go (Record r) t = t
      go (Constant c) t = t

  pub reads_new : (v : ℕ) (w : Written) → Counted w → SomeOf (NamesVariable ns.instructions ns.variables v) w.arguments → T (reads_variable v (reads (instruction m ns w)))
  reads_new v w c s = subst⁻¹ (λ os. T (reads_variable v os)) (reads_written m ns w c) (reads_named v w.arguments s)

pub variable_kept : (v : ℕ) (is js : List Instruction) → T (variable_in v is) → T (variable_in v (is ++ js))
variable_kept v [] js t = absurd t
variable_kept v (i ∷ is) js t = go (reads_variable v (reads i)) (variable_kept v is js) t
  where
    go : (b : Bool) → (T (variable_in v is) → T (variable_in v (is ++ js))) → T (b || variable_in v is) → T (b || variable_in v (is ++ js))
    go true rest t = tt
    go false rest t = rest t

pub variable_pushed : (v : ℕ) (is : List Instruction) (i : Instruction) → T (reads_variable v (reads i)) → T (variable_in v (is ++ i ∷ []))
variable_pushed v [] i t = elim (reads_variable v (reads i)) as (λ b. T b → T (b || false)) [ true ↦ λ t. tt | false ↦ λ t. t ] t
variable_pushed v (x ∷ is) i t = elim (reads_variable v (reads x)) as (λ b. T (b || variable_in v (is ++ i ∷ []))) [ true ↦ tt | false ↦ variable_pushed v is i t ]

pub bodies_push : (xs : List Named) (x : Named) → bodies (xs ++ x ∷ []) ≡ bodies xs ++ x.what ∷ []
bodies_push [] x = refl
bodies_push (y ∷ xs) x = ap (λ l. y.what ∷ l) (bodies_push xs x)

pub length_entered : (m : Model) (ns : Names) (w : Written) (xs : List Named) → length (entered m ns w xs) ≡ suc (length xs)
length_entered m ns w xs = let e = length-append xs (record { name = w.name; what = instruction m ns w } ∷ []) in omega arith

-- one more line without a fault
pub fine_entered : (m : Model) (vs : List Bytes) (xs : List Named) (too_many : Bool) (w : Written) → Counted w →
    let ns : Names = record { variables = vs; instructions = names_of xs } in
    Faultless m too_many ns w → Fine m (length vs) 1 (bodies xs) → Fine m (length vs) 1 (bodies (entered m ns w xs))
fine_entered m vs xs too_many w c f g =
    let ns : Names = record { variables = vs; instructions = names_of xs } in
    let at : 1 + length (names_of xs) ≡ 1 + length (bodies xs) = ap (λ k. 1 + k) (length-map xs (λ x. x.name) ∙ sym (length-map xs (λ x. x.what))) in
    subst⁻¹ (Fine m (length vs) 1) (bodies_push xs _) (fine_push m (length vs) 1 (bodies xs) (instruction m ns w) g (subst (λ k. All (Okay m (length vs) k) (reads (instruction m ns w))) at (reads_okay m ns too_many w c f)))
