-- An accepted program is well formed, with its instructions in records 1, 2, 3, …. Assumes nothing.
use Rattle.std.proofs.Common.{◌≡◌, ℕ, suc, ◌<◌, ◌≤◌, ltb, leb, List, [], ◌∷◌, length, Some, None, Option, refl, ap, subst, arith}
use lib.ListN.{length-map}
use Rattle.std.proofs.lemmas.Bool.{leb-false, ltb-false}
use Rattle.semantics.specs.declared.Instruction.{Instruction}
use Rattle.domain.specs.Model.{Model}
use Rattle.semantics.specs.Programs.{Program, All, records}
use Rattle.semantics.specs.Rules.{numbered}
use Rattle.semantics.specs.Cases.{from}
use Rattle.scan.specs.Pieces.{Bytes}
use Rattle.text.specs.Forms.{Form, Written, form, rule_line, arrow_line, end_line, in_line, ret_line, instruction_line}
use Rattle.text.specs.Faults.{next, accepted, first_of}
use Rattle.text.specs.Instructions.{Named, names_of, bodies, place, instruction_fault}
use Rattle.text.specs.ProgramTexts.{Section, at_start, in_body, at_end, Reading, twice, inputs_line, body_names, body_line, result_at, result_line, in_order, program_step, program_of, ended, program_end, nothing_read, read_program}
use Rattle.text.specs.Neat.{Neat}
use Rattle.text.specs.Accepted.{ProgramSaid}
use Rattle.text.proofs.Neatness.{neat_entered}
use Rattle.text.proofs.Tests.{none_first, unless_next, no_line}
use Rattle.text.proofs.Found.{place_below}
use Rattle.text.proofs.Fine.{Fine, fine_ordered, length_numbered, in_numbered}
use Rattle.text.proofs.Lines.{Counted, faultless, length_entered, fine_entered}
use Rattle.text.proofs.Shapes.{counted}
use Rattle.text.proofs.Walks.{read_keeps}

-- what the lines so far keep
pub record Sound (m : Model) (inputs : List Bytes) (body : List Named) : Type 0 where
  pub few_inputs : length inputs ≤ 8
  pub few : length body ≤ 64
  pub fine : Fine m (length inputs) 1 (bodies body)
  pub neat : All Neat (bodies body)

-- before `in` nothing is read, and after `ret` the result is an instruction
abbrev Closed : Section → List Named → ℕ → Type 0
Closed at_start body result = length body ≡ 0
Closed in_body body result = Unit {0}
Closed at_end body result = (1 ≤ result) × (result ≤ length body)

abbrev Kept : Model → Reading → Type 0
Kept m s = Sound m s.inputs s.body × Closed s.section s.body s.result

pub records_from : (k : ℕ) (is : List Instruction) → records (numbered k is) ≡ from k (length (numbered k is))
records_from k [] = refl
records_from k (i ∷ is) = ap (λ l. k ∷ l) (records_from (suc k) is)

neat_numbered : (k : ℕ) (is : List Instruction) → All Neat is → All (λ x. Neat x.what) (numbered k is)
neat_numbered k [] a = tt
neat_numbered k (i ∷ is) a = (a.0, neat_numbered (suc k) is a.1)

module _ (m : Model) where
  keeps_inputs : (s t : Reading) (ns : List Bytes) → length s.body ≡ 0 → inputs_line s ns ≡ next t → Kept m t
  keeps_inputs s t ns z e =
      let (none, same) = unless_next (first_of (ltb 8 (length ns)) 4 (first_of (twice ns) 5 None)) _ t e in
      let few : length ns ≤ 8 = ltb-false 8 (length ns) (none_first (ltb 8 (length ns)) 4 _ none).0 in
      subst (Kept m) same (record { few_inputs = few; few = omega arith; fine = empty s.body z; neat = bare s.body z }, tt)
    where
      empty : (xs : List Named) → length xs ≡ 0 → Fine m (length ns) 1 (bodies xs)
      empty [] e = tt
      empty (x ∷ xs) e = absurd (omega arith)

      bare : (xs : List Named) → length xs ≡ 0 → All Neat (bodies xs)
      bare [] e = tt
      bare (x ∷ xs) e = absurd (omega arith)

  keeps_body : (s t : Reading) (w : Written) → Counted w → Sound m s.inputs s.body → body_line m s w ≡ next t → Kept m t
  keeps_body s t w c k e =
      let ns = body_names s in
      let many = leb 64 (length s.body) in
      let (none, same) = unless_next (instruction_fault m many ns w) _ t e in
      let f = faultless m many ns w none in
      let below : length s.body < 64 = leb-false 64 (length s.body) f.room in
      subst (Kept m) same (
        record {
          few_inputs = k.few_inputs;
          few = let z = length_entered m ns w s.body in omega arith;
          fine = fine_entered m s.inputs s.body many w c f k.fine;
          neat = neat_entered m many ns w s.body c f k.neat;
        },
        tt,
      )

  keeps_result : (s t : Reading) (n : Bytes) (xs : List Named) → s.body ≡ xs → Sound m s.inputs s.body → result_line xs s n ≡ next t → Kept m t
  keeps_result s t n [] q k e = no_line e
  keeps_result s t n (x ∷ xs) q k e = go (place n (names_of (x ∷ xs))) (place_below n (names_of (x ∷ xs))) e
    where
      go : (o : Option ℕ) → ((j : ℕ) → o ≡ Some j → j < length (names_of (x ∷ xs))) → result_at o s ≡ next t → Kept m t
      go None below e = no_line e
      go (Some j) below e =
          let h = below j refl in
          let l = length-map xs (λ x. x.name) in
          let b : length s.body ≡ suc (length xs) = ap length q in
          let same : record { section = at_end; inputs = s.inputs; body = s.body; result = suc j } ≡ t = cc in
          subst (Kept m) same (k, (omega arith, omega arith))

  keeps_in : (x : Section) (s : Reading) (ws : List Bytes) (f : Form) (t : Reading) → form ws ≡ Some f → Sound m s.inputs s.body → Closed x s.body s.result → in_order m x s f ≡ next t → Kept m t
  keeps_in at_start s ws rule_line t q k c e = no_line e
  keeps_in at_start s ws arrow_line t q k c e = no_line e
  keeps_in at_start s ws end_line t q k c e = no_line e
  keeps_in at_start s ws (in_line ns) t q k c e = keeps_inputs s t ns c e
  keeps_in at_start s ws (ret_line n) t q k c e = no_line e
  keeps_in at_start s ws (instruction_line w) t q k c e = no_line e
  keeps_in in_body s ws rule_line t q k c e = no_line e
  keeps_in in_body s ws arrow_line t q k c e = no_line e
  keeps_in in_body s ws end_line t q k c e = no_line e
  keeps_in in_body s ws (in_line ns) t q k c e = no_line e
  keeps_in in_body s ws (ret_line n) t q k c e = keeps_result s t n s.body refl k e
  keeps_in in_body s ws (instruction_line w) t q k c e = keeps_body s t w (counted ws w q) k e
  keeps_in at_end s ws rule_line t q k c e = no_line e
  keeps_in at_end s ws arrow_line t q k c e = no_line e
  keeps_in at_end s ws end_line t q k c e = no_line e
  keeps_in at_end s ws (in_line ns) t q k c e = no_line e
  keeps_in at_end s ws (ret_line n) t q k c e = no_line e
  keeps_in at_end s ws (instruction_line w) t q k c e = no_line e

  made_at : (x : Section) (s : Reading) (n : ℕ) (p : Program) → Sound m s.inputs s.body → Closed x s.body s.result → ended x s n ≡ accepted p → ProgramSaid m p
  made_at at_start s n p k c e = let z : ◌≡◌ {A = ℕ} 0 1 = cc in absurd (omega arith)
  made_at in_body s n p k c e = let z : ◌≡◌ {A = ℕ} 0 1 = cc in absurd (omega arith)
  made_at at_end s n p k c e =
      let is = bodies s.body in
      let len : length is ≡ length s.body = length-map s.body (λ x. x.what) in
      let num = length_numbered 1 is in
      let few = k.few in
      let same : program_of s ≡ p = cc in
      subst (ProgramSaid m) same (record {
        formed = record {
          few_inputs = k.few_inputs;
          some = omega arith;
          few = omega arith;
          ordered = fine_ordered m (length s.inputs) 1 [] is (λ r a b. absurd (omega arith)) (λ r h. absurd h) (omega arith) (omega arith) k.fine;
          has_result = in_numbered 1 is s.result c.0 (omega arith);
        };
        in_order = records_from 1 is;
        neat = neat_numbered 1 is k.neat;
      })

  start : Kept m nothing_read
  start = (record { few_inputs = omega arith; few = omega arith; fine = tt; neat = tt }, refl)

  pub program_made : (text : Bytes) (p : Program) → read_program m text ≡ accepted p → ProgramSaid m p
  program_made text p e =
      let (s, n, k, f) = read_keeps (program_step m) program_end (Kept m) (λ s ws f t q k e. keeps_in s.section s ws f t q k.0 k.1 e) nothing_read text p start e in
      made_at s.section s n p k.0 k.1 f
