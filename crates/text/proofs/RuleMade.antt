-- An accepted rule is well made. Assumes nothing.
use Rattle.std.proofs.Common.{◌≡◌, ℕ, ◌<◌, ◌≤◌, not, ◌||◌, T, ltb, leb, List, [], ◌∷◌, length, Some, None, Option, refl, subst, ⊎_elim, arith}
use mathlib.Core.Path.{subst⁻¹}
use lib.ListN.{length-map}
use Rattle.std.proofs.lemmas.Bool.{or_parts, leb-false, ltb-false, cases_lt}
use Rattle.domain.specs.Model.{Model}
use Rattle.semantics.specs.Programs.{Formed, All}
use Rattle.semantics.specs.Rules.{Rule, side, source_of, variable_in}
use Rattle.semantics.specs.Cases.{case_number}
use Rattle.scan.specs.Pieces.{Bytes}
use Rattle.vocabulary.specs.Names.{same_word}
use Rattle.text.specs.Forms.{Form, Written, form, rule_line, arrow_line, end_line, in_line, ret_line, instruction_line}
use Rattle.text.specs.Faults.{next, accepted}
use Rattle.text.specs.Instructions.{Named, names_of, bodies, instruction, instruction_fault, entered}
use Rattle.text.specs.RuleTexts.{Section, at_start, in_source, in_target, at_end, Reading, in_section, closing, source_names, source_line, target_names, target_line, in_order, rule_step, rule_of, some_unread, last_name, rule_fault, whole, ended, rule_end, nothing_read, read_rule}
use Rattle.text.specs.Neat.{Neat}
use Rattle.text.specs.Accepted.{operands, RuleSaid}
use Rattle.text.proofs.Turns.{Turns, turns_push, turns_line}
use Rattle.text.proofs.Neatness.{neat_entered}
use Rattle.text.proofs.Tests.{none_first, unless_next, no_line}
use Rattle.text.proofs.Found.{learnt_new, learnt_longer}
use Rattle.text.proofs.Fine.{Fine, fine_more, fine_ordered, length_numbered, in_numbered, all_read}
use Rattle.text.proofs.Lines.{Counted, faultless, reads_new, variable_kept, variable_pushed, bodies_push, length_entered, fine_entered}
use Rattle.text.proofs.Shapes.{counted}
use Rattle.text.proofs.Walks.{read_keeps}

-- what the lines so far keep
pub record Sound (m : Model) (vs : List Bytes) (source target : List Named) : Type 0 where
  pub few_variables : length vs ≤ 4
  pub source_few : length source ≤ 8
  pub target_few : length target ≤ 8
  pub source_fine : Fine m (length vs) 1 (bodies source)
  pub target_fine : Fine m (length vs) 1 (bodies target)
  pub turns : Turns 0 (operands (bodies source)) (length vs)
  pub source_neat : All Neat (bodies source)
  pub target_neat : All Neat (bodies target)
  pub used : (v : ℕ) → v < length vs → T (variable_in v (bodies source))

-- a part that was closed has a line
abbrev Closed : Section → List Named → List Named → Type 0
Closed at_start source target = Unit {0}
Closed in_source source target = Unit {0}
Closed in_target source target = 1 ≤ length source
Closed at_end source target = (1 ≤ length source) × (1 ≤ length target)

abbrev Kept : Model → Reading → Type 0
Kept m s = Sound m s.variables s.source s.target × Closed s.section s.source s.target

module _ (m : Model) where
  keeps_source : (s t : Reading) (w : Written) → Counted w → Sound m s.variables s.source s.target → source_line m s w ≡ next t → Kept m t
  keeps_source s t w c k e =
      let ns = source_names s w in
      let vs = ns.variables in
      let many = leb 8 (length s.source) || ltb 4 (length vs) in
      let (none, same) = unless_next (instruction_fault m many ns w) _ t e in
      let f = faultless m many ns w none in
      let (a, b) = or_parts (leb 8 (length s.source)) (ltb 4 (length vs)) f.room in
      let below : length s.source < 8 = leb-false 8 (length s.source) a in
      let few : length vs ≤ 4 = ltb-false 4 (length vs) b in
      let longer : length s.variables ≤ length vs = learnt_longer (names_of s.source) s.variables w.arguments in
      let old : Fine m (length vs) 1 (bodies s.source) = fine_more m (length s.variables) (length vs) 1 longer (bodies s.source) k.source_fine in
      let push = bodies_push s.source (record { name = w.name; what = instruction m ns w }) in
      let still : (v : ℕ) → v < length vs → T (variable_in v (bodies (entered m ns w s.source))) =
      λ v h. subst⁻¹ (λ is. T (variable_in v is)) push
      (⊎_elim (λ l. variable_kept v (bodies s.source) (instruction m ns w ∷ []) (k.used v l))
      (λ g. variable_pushed v (bodies s.source) (instruction m ns w) (reads_new m ns v w c (learnt_new (names_of s.source) s.variables w.arguments v g h)))
      (cases_lt v (length s.variables))) in
      subst (Kept m) same (
        record {
          few_variables = few;
          source_few = let z = length_entered m ns w s.source in omega arith;
          target_few = k.target_few;
          source_fine = fine_entered m vs s.source many w c f old;
          target_fine = fine_more m (length s.variables) (length vs) 1 longer (bodies s.target) k.target_fine;
          turns = subst⁻¹ (λ is. Turns 0 (operands is) (length vs)) push (turns_push (length s.variables) (length vs) (bodies s.source) (instruction m ns w) k.turns (turns_line m (names_of s.source) s.variables w c));
          source_neat = neat_entered m many ns w s.source c f k.source_neat;
          target_neat = k.target_neat;
          used = still;
        },
        tt,
      )

  keeps_target : (s t : Reading) (w : Written) → Counted w → Sound m s.variables s.source s.target → 1 ≤ length s.source → target_line m s w ≡ next t → Kept m t
  keeps_target s t w c k some e =
      let ns = target_names s in
      let many = leb 8 (length s.target) in
      let (none, same) = unless_next (instruction_fault m many ns w) _ t e in
      let f = faultless m many ns w none in
      let below : length s.target < 8 = leb-false 8 (length s.target) f.room in
      subst (Kept m) same (
        record {
          few_variables = k.few_variables;
          source_few = k.source_few;
          target_few = let z = length_entered m ns w s.target in omega arith;
          source_fine = k.source_fine;
          target_fine = fine_entered m s.variables s.target many w c f k.target_fine;
          turns = k.turns;
          source_neat = k.source_neat;
          target_neat = neat_entered m many ns w s.target c f k.target_neat;
          used = k.used;
        },
        some,
      )

  closes : {S : Type 0} (xs : List Named) (s t : S) → closing xs s ≡ next t → (1 ≤ length xs) × (s ≡ t)
  closes [] s t e = no_line e
  closes (x ∷ xs) s t e = (omega arith, cc)

  keeps_in : (x : Section) (s : Reading) (ws : List Bytes) (f : Form) (t : Reading) → form ws ≡ Some f → Sound m s.variables s.source s.target → Closed x s.source s.target → in_order m x s f ≡ next t → Kept m t
  keeps_in at_start s ws rule_line t q k c e = let same : in_section in_source s ≡ t = cc in subst (Kept m) same (k, tt)
  keeps_in at_start s ws arrow_line t q k c e = no_line e
  keeps_in at_start s ws end_line t q k c e = no_line e
  keeps_in at_start s ws (in_line ns) t q k c e = no_line e
  keeps_in at_start s ws (ret_line n) t q k c e = no_line e
  keeps_in at_start s ws (instruction_line w) t q k c e = no_line e
  keeps_in in_source s ws rule_line t q k c e = no_line e
  keeps_in in_source s ws arrow_line t q k c e = let (some, same) = closes s.source _ t e in subst (Kept m) same (k, some)
  keeps_in in_source s ws end_line t q k c e = no_line e
  keeps_in in_source s ws (in_line ns) t q k c e = no_line e
  keeps_in in_source s ws (ret_line n) t q k c e = no_line e
  keeps_in in_source s ws (instruction_line w) t q k c e = keeps_source s t w (counted ws w q) k e
  keeps_in in_target s ws rule_line t q k c e = no_line e
  keeps_in in_target s ws arrow_line t q k c e = no_line e
  keeps_in in_target s ws end_line t q k c e = let (some, same) = closes s.target _ t e in subst (Kept m) same (k, (c, some))
  keeps_in in_target s ws (in_line ns) t q k c e = no_line e
  keeps_in in_target s ws (ret_line n) t q k c e = no_line e
  keeps_in in_target s ws (instruction_line w) t q k c e = keeps_target s t w (counted ws w q) k c e
  keeps_in at_end s ws rule_line t q k c e = no_line e
  keeps_in at_end s ws arrow_line t q k c e = no_line e
  keeps_in at_end s ws end_line t q k c e = no_line e
  keeps_in at_end s ws (in_line ns) t q k c e = no_line e
  keeps_in at_end s ws (ret_line n) t q k c e = no_line e
  keeps_in at_end s ws (instruction_line w) t q k c e = no_line e

  formed_side : (n : ℕ) (xs : List Named) → n ≤ 4 → 1 ≤ length xs → length xs ≤ 8 → Fine m n 1 (bodies xs) → Formed m (side n (bodies xs))
  formed_side n xs few some short f =
      let is = bodies xs in
      let len : length is ≡ length xs = length-map xs (λ x. x.what) in
      let num = length_numbered 1 is in
      record {
        few_inputs = omega arith;
        some = omega arith;
        few = omega arith;
        ordered = fine_ordered m n 1 [] is (λ r a b. absurd (omega arith)) (λ r h. absurd h) (omega arith) (omega arith) f;
        has_result = in_numbered 1 is (length is) (omega arith) (omega arith);
      }

  well_made_at : (x : Section) (s : Reading) (n : ℕ) (r : Rule) → Sound m s.variables s.source s.target → Closed x s.source s.target → ended m x s n ≡ accepted r → RuleSaid m r
  well_made_at at_start s n r k c e = let z : ◌≡◌ {A = ℕ} 0 1 = cc in absurd (omega arith)
  well_made_at in_source s n r k c e = let z : ◌≡◌ {A = ℕ} 0 1 = cc in absurd (omega arith)
  well_made_at in_target s n r k c e = let z : ◌≡◌ {A = ℕ} 0 1 = cc in absurd (omega arith)
  well_made_at at_end s n r k c e = go (rule_fault m s) refl e
    where
      go : (o : Option ℕ) → rule_fault m s ≡ o → whole o (rule_of s) ≡ accepted r → RuleSaid m r
      go (Some j) q e = let z : ◌≡◌ {A = ℕ} 0 1 = cc in absurd (omega arith)
      go None q e =
          let same : rule_of s ≡ r = cc in
          let a8 = none_first (some_unread (source_of (rule_of s)).body || not (same_word (last_name s.source) (last_name s.target))) 8 _ q in
          let a9 = none_first (ltb 100000000 (case_number m (rule_of s))) 9 _ a8.1 in
          let (read, last) = or_parts (some_unread (source_of (rule_of s)).body) _ a8.0 in
          subst (RuleSaid m) same (record {
            made = record {
              few_variables = k.few_variables;
              source_formed = formed_side (length s.variables) s.source k.few_variables c.0 k.source_few k.source_fine;
              target_formed = formed_side (length s.variables) s.target k.few_variables c.1 k.target_few k.target_fine;
              source_few = let l = length-map s.source (λ x. x.what) in let h = k.source_few in omega arith;
              target_few = let l = length-map s.target (λ x. x.what) in let h = k.target_few in omega arith;
              all_read = all_read m (length s.variables) (bodies s.source) k.source_fine read;
              all_used = k.used;
            };
            cases = ltb-false 100000000 (case_number m (rule_of s)) a9.0;
            in_turn = k.turns.each;
            source_neat = k.source_neat;
            target_neat = k.target_neat;
          })

  start : Kept m nothing_read
  start = (record { few_variables = omega arith; source_few = omega arith; target_few = omega arith; source_fine = tt; target_fine = tt; turns = record { each = tt; end = refl }; source_neat = tt; target_neat = tt; used = λ v h. absurd (omega arith) }, tt)

  pub rule_made : (text : Bytes) (r : Rule) → read_rule m text ≡ accepted r → RuleSaid m r
  rule_made text r e =
      let (s, n, k, f) = read_keeps (rule_step m) (rule_end m) (Kept m) (λ s ws f t q k e. keeps_in s.section s ws f t q k.0 k.1 e) nothing_read text r start e in
      well_made_at s.section s n r k.0 k.1 f
