-- A search in the lists that are left. Assumes nothing.
use Rattle.std.proofs.Common.{◌≡◌, ℕ, ◌+◌, ◌<◌, ◌≤◌, Bool, true, false, cond, List, [], ◌∷◌, ◌++◌, map, length, take, drop, Some, None, Option, sym, refl, ap, ◌∙◌, subst, arith}
use Rattle.std.proofs.lemmas.List.{take-take, drop-take}
use Rattle.domain.specs.Model.{Model, Outcome}
use Rattle.semantics.specs.Programs.{outcome}
use Rattle.semantics.specs.Rules.{Rule, side}
use Rattle.semantics.specs.declared.Instruction.{Instruction}
use Rattle.semantics.specs.Cases.{outcome_refining, each_of, tuples, none, first, freezes_in, Case, as_case, entries, refutes}
use Rattle.checker.specs.declared.case.Case.{Case as Held}
use Rattle.checker.specs.Walks.{above, left, present, sets, Known, first_digits}
use Rattle.checker.specs.Shown.{allows, case_of, Goes}
use Rattle.checker.proofs.Walks.{length_sets, all_left}

-- the present list is the first that is left
begins : (ds : List (List ℕ)) (cs : List ℕ) → length ds ≤ length cs → (rest : List (List ℕ)) × (left ds cs ≡ present ds cs ∷ rest)
begins [] cs l = ([], refl)
begins (d ∷ ds) [] l = absurd (omega arith)
begins (d ∷ ds) (c ∷ cs) l =
    let (rest, e) = begins ds cs (omega arith) in
    let others = each_of (λ a. map (λ t. a ∷ t) (tuples ds)) (above c d) in
    (map (λ t. c ∷ t) rest ++ others, ap (λ l. map (λ t. c ∷ t) l ++ others) e)

-- a list by its first element and the others, and a test of the first
module _ {A : Type 0} (t : A → Bool) (xs : List A) (x : A) (rest : List A) (is : xs ≡ x ∷ rest) (b : Bool) (told : b ≡ t x) where
  none_opens : none t xs ≡ cond b false (none t rest)
  none_opens = ap (none t) is ∙ ap (λ z. cond z false (none t rest)) (sym told)

  first_opens : first t xs ≡ cond b (Some x) (first t rest)
  first_opens = ap (first t) is ∙ ap (λ z. cond z (Some x) (first t rest)) (sym told)

-- what is left from a case on, where n are its variables and f its choices
abbrev pub upcoming : List (List ℕ) → Option Held → List (List ℕ)
upcoming ds None = []
upcoming ds (Some c) = left ds c.digits

-- a case that comes up has n variables and f choices
abbrev pub Shaped : ℕ → ℕ → Option Held → Type 0
Shaped n f None = Unit {0}
Shaped n f (Some c) = (c.variable_count ≡ n) × (c.choice_count ≡ f)

module _ (m : Model) (n f : ℕ) (c : Held) (p : c.variable_count ≡ n) (q : c.choice_count ≡ f) where
  -- the present list, and what comes behind it
  goes : (next : Option Held) → Goes (sets m c.variable_count c.choice_count) c next → left (sets m n f) c.digits ≡ present (sets m n f) c.digits ∷ upcoming (sets m n f) next
  goes None h = subst (λ ds. left ds c.digits ≡ present ds c.digits ∷ []) (λ i. sets m (p i) (q i)) h
  goes (Some e) h = subst (λ ds. left ds c.digits ≡ present ds c.digits ∷ left ds e.digits) (λ i. sets m (p i) (q i)) h.0

  pub stays_shaped : (next : Option Held) → Goes (sets m c.variable_count c.choice_count) c next → Shaped n f next
  stays_shaped None h = tt
  stays_shaped (Some e) h = (h.1 ∙ p, h.2 ∙ q)

  -- one list fewer is left
  pub fewer : (next : Option Held) → Goes (sets m c.variable_count c.choice_count) c next → length (upcoming (sets m n f) next) < length (left (sets m n f) c.digits)
  fewer next h = omega (arith, ap length (goes next h))

  -- the present list is the first
  now_first : (rest : List (List ℕ)) × (left (sets m n f) c.digits ≡ present (sets m n f) c.digits ∷ rest)
  now_first = begins (sets m n f) c.digits (omega (arith, length_sets m n f, p, q, c.long, c.few_variables, c.few_choices))

  -- and has the variables and then the choices of the case
  front : take n (present (sets m n f) c.digits) ≡ (case_of c).vars
  front = let le : n ≤ n + f = omega arith in ap (λ k. take n (take k c.digits)) (length_sets m n f) ∙ take-take n (n + f) c.digits le ∙ sym (λ i. take (p i) c.digits)

  back : drop n (present (sets m n f) c.digits) ≡ (case_of c).choices
  back = ap (λ k. drop n (take k c.digits)) (length_sets m n f) ∙ drop-take n f c.digits ∙ sym (λ i. take (q i) (drop (p i) c.digits))

-- at the first list all are left
pub starts :
    (m : Model) (size least n f : ℕ) (c : Held) → 0 < m.size → Known m size least → c.variable_count ≡ n → c.choice_count ≡ f → c.digits ≡ first_digits n least →
    left (sets m n f) c.digits ≡ tuples (sets m n f)
starts m size least n f c some k p q e = ap (left (sets m n f)) e ∙ all_left m size least n f some k (omega (arith, p, c.few_variables)) (omega (arith, q, c.few_choices))

-- the choices of a source: those that are left decide
module _ (m : Model) (ours : Outcome) (source : List Instruction) (vars : List ℕ) (f : ℕ) (c : Held) (p : c.variable_count ≡ 0) (q : c.choice_count ≡ f) (whole : Bool)
    (inv : none (allows m ours source vars) (left (sets m 0 f) c.digits) ≡ whole) (theirs : Outcome) (ds : List ℕ)
    (is : ds ≡ (case_of c).choices) (run : theirs ≡ outcome m (side (length vars) source) vars ds) where
  tried : (b : Bool) → b ≡ outcome_refining m ours theirs → b ≡ allows m ours source vars (present (sets m 0 f) c.digits)
  tried b test = test ∙ ap (outcome_refining m ours) run ∙ ap (allows m ours source vars) (is ∙ sym (back m 0 f c p q))

  pub matched : true ≡ outcome_refining m ours theirs → false ≡ whole
  matched test = let (rest, e) = now_first m 0 f c p q in sym (none_opens (allows m ours source vars) _ _ rest e true (tried true test)) ∙ inv

  pub missed : (next : Option Held) → Goes (sets m c.variable_count c.choice_count) c next → false ≡ outcome_refining m ours theirs → none (allows m ours source vars) (upcoming (sets m 0 f) next) ≡ whole
  missed next h test = sym (none_opens (allows m ours source vars) _ _ _ (goes m 0 f c p q next h) false (tried false test)) ∙ inv

-- the cases of a rule: those that are left decide
module _ (m : Model) (r : Rule) (c : Held) (p : c.variable_count ≡ r.variables) (q : c.choice_count ≡ freezes_in r.target) (whole : Option Case)
    (inv : first (refutes m r) (map (as_case r) (left (entries m r) c.digits)) ≡ whole) where
  here : case_of c ≡ as_case r (present (entries m r) c.digits)
  here = sym (λ i. record { vars = front m r.variables (freezes_in r.target) c p q i; choices = back m r.variables (freezes_in r.target) c p q i })

  pub refuted : true ≡ refutes m r (case_of c) → Some (case_of c) ≡ whole
  refuted test =
      let (rest, e) = now_first m r.variables (freezes_in r.target) c p q in
      ap Some here ∙ sym (first_opens (refutes m r) _ _ (map (as_case r) rest) (ap (map (as_case r)) e) true (test ∙ ap (refutes m r) here)) ∙ inv

  pub passed : (next : Option Held) → Goes (sets m c.variable_count c.choice_count) c next → false ≡ refutes m r (case_of c) → first (refutes m r) (map (as_case r) (upcoming (entries m r) next)) ≡ whole
  passed next h test = sym (first_opens (refutes m r) _ _ _ (ap (map (as_case r)) (goes m r.variables (freezes_in r.target) c p q next h)) false (test ∙ ap (refutes m r) here)) ∙ inv
