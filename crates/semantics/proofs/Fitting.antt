-- A rule that fits at an instruction of a program: its matches, what stays, and its variables. Assumes nothing.
use Rattle.std.proofs.Common.{ℕ, ◌<◌, not, T, List, length, subst, ⊎_elim}
use Rattle.domain.specs.Model.{Model}
use Rattle.semantics.specs.Programs.{Placed, Program, Formed, reads, records, Readable}
use Rattle.semantics.specs.Rules.{Rule, WellMade, numbered, any_reads, Match, Matched, matches, removed, Fits, home, block, rewritten, Fresh}
use Rattle.semantics.specs.declared.Operand.{Operand}
use Rattle.semantics.specs.declared.Operand.TheVariants.{Input, Record, Constant}
use Rattle.semantics.proofs.Members.{In, Each, each_from_all, stands_in, in_stands, front_in}
use Rattle.semantics.proofs.Operands.{untouched}
use Rattle.semantics.proofs.Order.{before, stands_before}
use Rattle.semantics.proofs.Splice.{Kept, spliced_keeps}
use Rattle.semantics.proofs.Matches.{Closes, closes, last_found, found_by, front_or_last, matched_by, operand_readable}

-- a rule, a program and a place where the rule fits, with records for the new instructions
pub record Fitting (m : Model) : Type 0 where
  pub rule : Rule
  pub made : WellMade m rule
  pub old : Program
  pub formed : Formed m old
  pub at : ℕ
  pub match : Match
  pub fits : Fits old rule at match
  pub fresh : List ℕ
  pub free : Fresh old rule at match fresh

abbrev pub sources : {m : Model} → Fitting m → List Placed
sources c = numbered 1 c.rule.source

abbrev pub targets : {m : Model} → Fitting m → List Placed
targets c = numbered 1 c.rule.target

abbrev pub gone : {m : Model} → Fitting m → List ℕ
gone c = removed c.match c.rule

-- the instructions before the place, old
abbrev pub upper : {m : Model} → Fitting m → List Placed
upper c = before c.at c.old.body

-- the record of the target's j-th instruction
abbrev pub home_of : {m : Model} → Fitting m → ℕ → ℕ
home_of c = home c.fresh c.at (length c.rule.target)

abbrev pub new_block : {m : Model} → Fitting m → List Placed
new_block c = block c.rule c.match c.at c.fresh

abbrev pub new : {m : Model} → Fitting m → Program
new c = rewritten c.old c.rule c.at c.match c.fresh

-- the instruction in this record stays
abbrev pub Stays : {m : Model} → Fitting m → ℕ → Type 0
Stays c q = Kept (gone c) c.at q

module _ {m : Model} (c : Fitting m) where
  -- each source instruction is matched
  pub source_matched : Each (sources c) (λ j s. Matched c.match c.old.body (record { at = j; what = s }))
  source_matched = each_from_all (Matched c.match c.old.body) (sources c) c.fits.same

  -- the last one at the place
  closing : Closes c.match c.at (sources c)
  closing = closes c.match c.at c.rule.source c.made.source_formed.some c.fits.at_last

  -- there is an instruction in the place
  pub place : In c.at (records c.old.body)
  place =
      let (j, s, there, e) = found_by c.match c.at (sources c) c.at (last_found c.match c.at (sources c) closing) in
      let (i, stands, alike) = source_matched j s there in
      subst (λ z. In z (records c.old.body)) e (stands_in c.old.body (c.match.record_of j) i stands)

  pub gone_matched : (q : ℕ) → In q (gone c) → In q (matches c.match c.rule)
  gone_matched q h = front_in (matches c.match c.rule) q h

  -- what stays is no match
  pub unmatched : (q : ℕ) → Stays c q → In q (matches c.match c.rule) → ⊥
  unmatched q k h = ⊎_elim k.1 k.0 (front_or_last c.match c.at (sources c) closing q h)

  -- what stays reads nothing that goes
  pub unread : Each c.old.body (λ q i. Stays c q → T (not (any_reads (gone c) (reads i))))
  unread q i s k = ⊎_elim (λ h. absurd (unmatched q k h)) (λ t. t) (each_from_all _ c.old.body c.fits.unread q i s)

  -- the operand of a variable may be read before the place
  pub variable_readable : (v : ℕ) → v < c.rule.variables → Readable m c.old.inputs (records (upper c)) (c.match.operand_of v)
  variable_readable v l =
      let by = matched_by c.match c.at m c.old.inputs c.old.body c.formed.ordered (sources c) source_matched c.made.all_read closing in
      operand_readable c.match c.at m c.old.inputs c.old.body c.formed.ordered c.rule.source source_matched by v (c.made.all_used v l)

  -- what holds of inputs, of what stays before the place and of settled constants holds of the operand of a variable
  pub variable_holds : (P : Operand → Type 0) → ((k : ℕ) → k < c.old.inputs → P (Input k)) → ((k : ℕ) → In k (records (upper c)) → (In k (gone c) → ⊥) → P (Record k)) → ((d : ℕ) → T (m.settled d) → P (Constant d)) →
      (v : ℕ) → v < c.rule.variables → P (c.match.operand_of v)
  variable_holds P inputs stay constants v l =
      untouched m c.old.inputs (records (upper c)) (matches c.match c.rule) P inputs (λ k h n. stay k h (λ t. n (gone_matched k t))) constants
      (c.match.operand_of v) (c.fits.outside v l) (variable_readable v l)

  -- what stays before the place is in the new body
  pub upper_stays : (k : ℕ) → In k (records (upper c)) → (In k (gone c) → ⊥) → In k (records (new c).body)
  upper_stays k h g =
      let (i, s) = in_stands (upper c) k h in
      let (there, other) = stands_before c.at c.old.body k i s in
      stands_in (new c).body k i (spliced_keeps (gone c) c.at (new_block c) c.old.body k i there (other, g))
