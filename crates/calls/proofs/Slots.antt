-- Slots taken, entered and freed stay each in one place. Assumes nothing.
use Rattle.std.proofs.Common.{◌≡◌, ℕ, ◌≤◌, eqb, ◌↔◌, List, [], ◌∷◌, ◌++◌, sym, refl, ◌∙◌, subst, inl, inr, ⊎_elim, arith}
use mathlib.Core.Path.{subst⁻¹}
use Rattle.std.proofs.lemmas.Bool.{cond-true, cond-false}
use Rattle.domain.specs.Model.{Model}
use Rattle.semantics.specs.Programs.{Refines, All, without}
use Rattle.semantics.specs.Rules.{Rule, Distinct, target_of, source_of}
use Rattle.semantics.specs.Changes.{Loaded, ProperProgram, Checked}
use Rattle.text.specs.Accepted.{RuleSaid}
use Rattle.calls.specs.Bench.{Slot, empty, State, set_slot, freed_slot, with_loaded, rule_in, rules}
use Rattle.calls.specs.States.{ProperEntry, Proper, StartsProper}
use Rattle.semantics.proofs.Members.{same_test, other_test, same?, In, in_first, in_there, in_cases, not_in, out}
use Rattle.semantics.proofs.Numbers.{in_left, in_right, in_either, distinct_append, in_without, without_in, without_distinct, from_in, in_from, from_distinct}

-- what a slot holds once one is set
pub set_here : (f : ℕ → Slot) (s : ℕ) (x : Slot) (k : ℕ) → k ≡ s → set_slot f s x k ≡ x
set_here f s x k e = cond-true (eqb k s) x (f k) (same_test e)

-- another slot holds what it held
set_other : (f : ℕ → Slot) (s : ℕ) (x : Slot) (k : ℕ) → (k ≡ s → ⊥) → set_slot f s x k ≡ f k
set_other f s x k n = cond-false (eqb k s) x (f k) (other_test n)

-- slots told apart
draft_empty : (r : Rule) → Slot.draft r ≡ empty → ⊥
draft_empty r e = let z : ◌≡◌ {A = ℕ} 0 1 = cc in omega arith

-- an entered rule is no empty slot
entered_empty : (r : Rule) → Slot.entered r ≡ empty → ⊥
entered_empty r e = let z : ◌≡◌ {A = ℕ} 0 1 = cc in omega arith

-- a draft is no entered rule
draft_entered : (r q : Rule) → Slot.draft r ≡ Slot.entered q → ⊥
draft_entered r q e = let z : ◌≡◌ {A = ℕ} 0 1 = cc in omega arith

-- a slot holds one draft
same_draft : (r q : Rule) → Slot.draft r ≡ Slot.draft q → r ≡ q
same_draft r q e = cc

-- a slot holds one rule
same_entry : (r q : Rule) → Slot.entered r ≡ Slot.entered q → r ≡ q
same_entry r q e = cc

-- a fresh bench is proper
pub starts_proper : (m : Model) → StartsProper m
starts_proper m = record {
  free_distinct = from_distinct 1 32;
  free = λ s. (λ h. let b = from_in 1 32 s h in (omega arith, omega arith, refl), λ h. in_from 1 32 s h.0 (omega arith));
  book_distinct = tt;
  book = λ s. (λ h. absurd h, λ h. absurd (entered_empty h.0 (sym h.1)));
  numbers = λ s. inl refl;
  drafts = λ s r e. absurd (draft_empty r (sym e));
  entries = λ s r e. absurd (entered_empty r (sym e));
  program = tt;
}

module _ (m : Model) (st : State) (proper : Proper m st) where
  -- another program
  pub loaded_proper : (l : Loaded) → ProperProgram m l → Proper m (with_loaded st l)
  loaded_proper l h = record {
    free_distinct = proper.free_distinct;
    free = proper.free;
    book_distinct = proper.book_distinct;
    book = proper.book;
    numbers = proper.numbers;
    drafts = proper.drafts;
    entries = proper.entries;
    program = h;
  }

  -- slot s gets x, and only its own places change
  module _ (s : ℕ) (x : Slot) (fr bk : List ℕ) (number : (1 ≤ s) × (s ≤ 32))
      (fr-distinct : Distinct fr) (fr-here : In s fr ↔ (x ≡ empty)) (fr-other : (k : ℕ) → (k ≡ s → ⊥) → In k fr ↔ In k st.free)
      (bk-distinct : Distinct bk) (bk-here : In s bk ↔ ((r : Rule) × (x ≡ Slot.entered r))) (bk-other : (k : ℕ) → (k ≡ s → ⊥) → In k bk ↔ In k st.book)
      (as-draft : (r : Rule) → x ≡ Slot.draft r → RuleSaid m r) (as-entry : (r : Rule) → x ≡ Slot.entered r → ProperEntry m r) where
    -- slot s holds x
    here : (k : ℕ) → k ≡ s → set_slot st.slots s x k ≡ x
    here k = set_here st.slots s x k

    -- another slot holds what it held
    other : (k : ℕ) → (k ≡ s → ⊥) → set_slot st.slots s x k ≡ st.slots k
    other k = set_other st.slots s x k

    -- a slot is free exactly when it is empty
    slot_free : (k : ℕ) → In k fr ↔ ((1 ≤ k) × (k ≤ 32) × (set_slot st.slots s x k ≡ empty))
    slot_free k =
        ⊎_elim
        (λ e. (
          λ h. (omega arith, omega arith, here k e ∙ fr-here.0 (subst (λ z. In z fr) e h)),
          λ h. subst⁻¹ (λ z. In z fr) e (fr-here.1 (sym (here k e) ∙ h.2)),
        ))
        (λ n. (
          λ h. let (low, high, was) = (proper.free k).0 ((fr-other k n).0 h) in (low, high, other k n ∙ was),
          λ h. (fr-other k n).1 ((proper.free k).1 (h.0, h.1, sym (other k n) ∙ h.2)),
        ))
        (same? k s)

    -- and in the book exactly when its rule is entered
    slot_book : (k : ℕ) → In k bk ↔ ((r : Rule) × (set_slot st.slots s x k ≡ Slot.entered r))
    slot_book k =
        ⊎_elim
        (λ e. (
          λ h. let (r, is) = bk-here.0 (subst (λ z. In z bk) e h) in (r, here k e ∙ is),
          λ h. subst⁻¹ (λ z. In z bk) e (bk-here.1 (h.0, sym (here k e) ∙ h.1)),
        ))
        (λ n. (
          λ h. let (r, was) = (proper.book k).0 ((bk-other k n).0 h) in (r, other k n ∙ was),
          λ h. (bk-other k n).1 ((proper.book k).1 (h.0, sym (other k n) ∙ h.1)),
        ))
        (same? k s)

    -- the state is proper again
    pub set_proper : Proper m (record { slots = set_slot st.slots s x; free = fr; book = bk; loaded = st.loaded })
    set_proper = record {
      free_distinct = fr-distinct;
      free = slot_free;
      book_distinct = bk-distinct;
      book = slot_book;
      numbers = λ k. ⊎_elim (λ e. inr (subst⁻¹ (λ z. (1 ≤ z) × (z ≤ 32)) e number)) (λ n. ⊎_elim (λ h. inl (other k n ∙ h)) inr (proper.numbers k)) (same? k s);
      drafts = λ k r h. ⊎_elim (λ e. as-draft r (sym (here k e) ∙ h)) (λ n. proper.drafts k r (sym (other k n) ∙ h)) (same? k s);
      entries = λ k r h. ⊎_elim (λ e. as-entry r (sym (here k e) ∙ h)) (λ n. proper.entries k r (sym (other k n) ∙ h)) (same? k s);
      program = proper.program;
    }

  -- a slot that holds something is one of the 32, and not free
  held_number : (s : ℕ) → (st.slots s ≡ empty → ⊥) → (1 ≤ s) × (s ≤ 32)
  held_number s full = ⊎_elim (λ h. absurd (full h)) (λ b. b) (proper.numbers s)

  -- the slot of a draft is not in the book
  draft_unlisted : (s : ℕ) (r : Rule) → st.slots s ≡ Slot.draft r → In s st.book → ⊥
  draft_unlisted s r was h = let (q, e) = (proper.book s).0 h in draft_entered r q (sym was ∙ e)

  -- the first free slot takes a draft
  pub taken_proper : (s : ℕ) (ss : List ℕ) → st.free ≡ s ∷ ss → (r : Rule) → RuleSaid m r → Proper m (record { slots = set_slot st.slots s (Slot.draft r); free = ss; book = st.book; loaded = st.loaded })
  taken_proper s ss e r good =
      set_proper s (Slot.draft r) ss st.book (was.0, was.1)
      all.1 (λ h. absurd (not_in s ss all.0 h), λ h. absurd (draft_empty r h)) (λ k n. (λ h. subst⁻¹ (In k) e (in_there k s ss h), λ h. ⊎_elim (λ same. absurd (n same)) (λ t. t) (in_cases k s ss (subst (In k) e h))))
      proper.book_distinct (λ h. let (q, is) = (proper.book s).0 h in absurd (entered_empty q (sym is ∙ was.2)), λ h. absurd (draft_entered r h.0 h.1)) (λ k n. (λ h. h, λ h. h))
      (λ q h. subst (RuleSaid m) (same_draft r q h) good) (λ q h. absurd (draft_entered r q h))
    where
      all : Distinct (s ∷ ss)
      all = subst Distinct e proper.free_distinct

      was : (1 ≤ s) × (s ≤ 32) × (st.slots s ≡ empty)
      was = (proper.free s).0 (subst⁻¹ (In s) e (in_first s ss))

  -- a draft is entered
  pub entered_proper : (s : ℕ) (r : Rule) → st.slots s ≡ Slot.draft r → Refines m (target_of r) (source_of r) →
      Proper m (record { slots = set_slot st.slots s (Slot.entered r); free = st.free; book = st.book ++ (s ∷ []); loaded = st.loaded })
  entered_proper s r was refines =
      set_proper s (Slot.entered r) st.free (st.book ++ (s ∷ [])) (held_number s full)
      proper.free_distinct (λ h. absurd (full ((proper.free s).0 h).2), λ h. absurd (entered_empty r h)) (λ k n. (λ h. h, λ h. h))
      (distinct_append st.book (s ∷ []) proper.book_distinct (tt, tt) (λ k h t. ⊎_elim (λ e. draft_unlisted s r was (subst (λ z. In z st.book) e h)) (λ none. absurd none) (in_cases k s [] t)))
      (λ h. (r, refl), λ h. in_right s st.book (s ∷ []) (in_first s []))
      (λ k n. (λ h. ⊎_elim (λ t. t) (λ t. ⊎_elim (λ e. absurd (n e)) (λ none. absurd none) (in_cases k s [] t)) (in_either k st.book (s ∷ []) h), in_left k st.book (s ∷ [])))
      (λ q h. absurd (draft_entered q r (sym h))) (λ q h. subst (ProperEntry m) (same_entry r q h) (record { said = proper.drafts s r was; refines = refines }))
    where
      full : st.slots s ≡ empty → ⊥
      full h = draft_empty r (sym was ∙ h)

  -- a slot is freed, and the book left has the others
  freed_proper : (s : ℕ) → (st.slots s ≡ empty → ⊥) → (left : List ℕ) → Distinct left → (In s left → ⊥) → ((k : ℕ) → (k ≡ s → ⊥) → In k left ↔ In k st.book) → Proper m (freed_slot st s left)
  freed_proper s full left distinct gone others =
      set_proper s empty (s ∷ st.free) left (held_number s full)
      (out s st.free (λ h. full ((proper.free s).0 h).2), proper.free_distinct) (λ h. refl, λ h. in_first s st.free) (λ k n. (λ h. ⊎_elim (λ e. absurd (n e)) (λ t. t) (in_cases k s st.free h), in_there k s st.free))
      distinct (λ h. absurd (gone h), λ h. absurd (entered_empty h.0 (sym h.1))) others
      (λ q h. absurd (draft_empty q (sym h))) (λ q h. absurd (entered_empty q (sym h)))

  -- a draft ends
  pub ended_proper : (s : ℕ) (r : Rule) → st.slots s ≡ Slot.draft r → Proper m (freed_slot st s st.book)
  ended_proper s r was = freed_proper s (λ h. draft_empty r (sym was ∙ h)) st.book proper.book_distinct (draft_unlisted s r was) (λ k n. (λ h. h, λ h. h))

  -- a rule is struck
  pub struck_proper : (s : ℕ) (r : Rule) → st.slots s ≡ Slot.entered r → Proper m (freed_slot st s (without s st.book))
  struck_proper s r was =
      freed_proper s (λ h. entered_empty r (sym was ∙ h)) (without s st.book) (without_distinct s st.book proper.book_distinct)
      (λ h. (without_in s st.book s h).1 refl) (λ k n. (λ h. (without_in s st.book k h).0, λ h. in_without s st.book k h n))

-- a rule that was entered may be applied
pub entry_checked : (m : Model) {r : Rule} → ProperEntry m r → Checked m r
entry_checked m e = record { made = e.said.made; refines = e.refines }

-- so may the rules of the book
pub book_entries : (m : Model) (f : ℕ → Slot) → ((s : ℕ) (r : Rule) → f s ≡ Slot.entered r → ProperEntry m r) → (ss : List ℕ) → All (Checked m) (rules f ss)
book_entries m f entries [] = tt
book_entries m f entries (s ∷ ss) = go (f s) (entries s) (book_entries m f entries ss)
  where
    go : (x : Slot) → ((r : Rule) → x ≡ Slot.entered r → ProperEntry m r) → All (Checked m) (rules f ss) → All (Checked m) (rule_in x ++ rules f ss)
    go empty h rest = rest
    go (Slot.draft r) h rest = rest
    go (Slot.entered r) h rest = (entry_checked m (h r refl), rest)
