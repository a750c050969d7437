-- Variables are numbered by first appearance. Assumes nothing.
use Rattle.std.proofs.Common.{◌≡◌, ℕ, suc, max, cond, ◌||◌, List, [], ◌∷◌, ◌++◌, map, length, Some, None, Option, sym, refl, ap, ◌∙◌, subst, append_assoc, append-nil, arith, length-append}
use mathlib.Core.Path.{subst⁻¹}
use Rattle.std.proofs.lemmas.Bool.{or_from, or_left, or_right}
use Rattle.semantics.specs.declared.Operand.{Operand}
use Rattle.semantics.specs.declared.Operand.TheVariants.{Input, Record, Constant}
use Rattle.semantics.specs.declared.Instruction.{Instruction}
use Rattle.domain.specs.Model.{Model}
use Rattle.semantics.specs.Programs.{reads}
use Rattle.scan.specs.Pieces.{Bytes}
use Rattle.text.specs.Words.{Argument, a_name, a_number, a_code}
use Rattle.text.specs.Forms.{Written}
use Rattle.text.specs.Instructions.{Names, place, among, learnt, constant, named, operand, instruction}
use Rattle.text.specs.Accepted.{operands, InTurn}
use Rattle.text.proofs.Found.{place_below, not_placed, among_placed, place_kept, place_last, learnt_more}
use Rattle.text.proofs.Lines.{Counted, reads_written}

-- how many variables are seen after some operands
abbrev pub seen_after : ℕ → List Operand → ℕ
seen_after seen [] = seen
seen_after seen (Input v ∷ os) = seen_after (max seen (suc v)) os
seen_after seen (Record r ∷ os) = seen_after seen os
seen_after seen (Constant c ∷ os) = seen_after seen os

-- from `seen` variables to `then`, in turn
pub record Turns (seen : ℕ) (os : List Operand) (then : ℕ) : Type 0 where
  pub each : InTurn seen os
  pub end : seen_after seen os ≡ then

pub turns_append : (a b c : ℕ) (os ps : List Operand) → Turns a os b → Turns b ps c → Turns a (os ++ ps) c
turns_append a b c [] ps t u = subst⁻¹ (λ n. Turns n ps c) t.end u
turns_append a b c (Input v ∷ os) ps t u =
    let r = turns_append (max a (suc v)) b c os ps (record { each = t.each.1; end = t.end }) u in
    record { each = (t.each.0, r.each); end = r.end }
turns_append a b c (Record r ∷ os) ps t u = let q = turns_append a b c os ps (record { each = t.each; end = t.end }) u in record { each = q.each; end = q.end }
turns_append a b c (Constant k ∷ os) ps t u = let q = turns_append a b c os ps (record { each = t.each; end = t.end }) u in record { each = q.each; end = q.end }

operands_push : (is : List Instruction) (i : Instruction) → operands (is ++ i ∷ []) ≡ operands is ++ reads i
operands_push [] i = append-nil (reads i)
operands_push (x ∷ is) i = ap (λ l. reads x ++ l) (operands_push is i) ∙ sym (append_assoc (reads x) (operands is) (reads i))

pub turns_push : (a b : ℕ) (is : List Instruction) (i : Instruction) → Turns 0 (operands is) a → Turns a (reads i) b → Turns 0 (operands (is ++ i ∷ [])) b
turns_push a b is i t u = subst⁻¹ (λ os. Turns 0 os b) (operands_push is i) (turns_append 0 a b (operands is) (reads i) t u)

other_turn : (n b : ℕ) (os : List Operand) (o : Option ℕ) → Turns n os b → Turns n (constant o ∷ os) b
other_turn n b os (Some c) t = record { each = t.each; end = t.end }
other_turn n b os None t = record { each = t.each; end = t.end }

-- a line's operands, where `all` are the variables after it
module _ (m : Model) (is all : List Bytes) where
  abbrev ns : Names
  ns = record { variables = all; instructions = is }

  -- a name: an instruction's, a known variable's, or that of the next variable
  turns_name : (vs : List Bytes) (n : Bytes) (os : List Operand) (xs : List Argument) → ((us : List Bytes) → learnt is us xs ≡ all → Turns (length us) os (length all)) →
      (i : Option ℕ) → place n is ≡ i → (v : Option ℕ) → place n vs ≡ v → learnt is (cond (among n is || among n vs) vs (vs ++ n ∷ [])) xs ≡ all →
      Turns (length vs) (named (place n is) (place n all) ∷ os) (length all)
  turns_name vs n os xs rest (Some j) p v q e =
      let known = or_left (among n is) (among n vs) (among_placed n is j p) in
      let t = rest vs (subst (λ b. learnt is (cond b vs (vs ++ n ∷ [])) xs ≡ all) known e) in
      subst⁻¹ (λ o. Turns (length vs) (named o (place n all) ∷ os) (length all)) p (record { each = t.each; end = t.end })
  turns_name vs n os xs rest None p (Some v) q e =
      let known = or_right (among n is) (among n vs) (among_placed n vs v q) in
      let e = subst (λ b. learnt is (cond b vs (vs ++ n ∷ [])) xs ≡ all) known e in
      let t = rest vs e in
      let (new, f) = learnt_more is vs xs in
      let here : place n all ≡ Some v = ap (place n) (sym e ∙ f) ∙ place_kept n vs new v q in
      let low = place_below n vs v q in
      let most : length vs ≡ max (length vs) (suc v) = omega arith in
      subst⁻¹ (λ o. Turns (length vs) (named o (place n all) ∷ os) (length all)) p (subst⁻¹ (λ o. Turns (length vs) (named None o ∷ os) (length all)) here (record {
        each = (omega arith, subst (λ k. InTurn k os) most t.each);
        end = subst (λ k. seen_after k os ≡ length all) most t.end;
      }))
  turns_name vs n os xs rest None p None q e =
      let unknown = or_from (among n is) (among n vs) (not_placed n is p) (not_placed n vs q) in
      let us = vs ++ n ∷ [] in
      let e = subst (λ b. learnt is (cond b vs us) xs ≡ all) unknown e in
      let t = rest us e in
      let (new, f) = learnt_more is us xs in
      let here : place n all ≡ Some (length vs) = ap (place n) (sym e ∙ f) ∙ place_kept n us new (length vs) (place_last n vs (not_placed n vs q)) in
      let len = length-append vs (n ∷ []) in
      let most : length us ≡ max (length vs) (suc (length vs)) = omega arith in
      subst⁻¹ (λ o. Turns (length vs) (named o (place n all) ∷ os) (length all)) p (subst⁻¹ (λ o. Turns (length vs) (named None o ∷ os) (length all)) here (record {
        each = (omega arith, subst (λ k. InTurn k os) most t.each);
        end = subst (λ k. seen_after k os ≡ length all) most t.end;
      }))

  turns_learnt : (vs : List Bytes) (xs : List Argument) → learnt is vs xs ≡ all → Turns (length vs) (map (operand m ns) xs) (length all)
  turns_learnt vs [] e = record { each = tt; end = ap length e }
  turns_learnt vs (a_number z ∷ xs) e = other_turn (length vs) (length all) (map (operand m ns) xs) (m.literal z) (turns_learnt vs xs e)
  turns_learnt vs (a_code c ∷ xs) e = let t = turns_learnt vs xs e in record { each = t.each; end = t.end }
  turns_learnt vs (a_name n ∷ xs) e = turns_name vs n (map (operand m ns) xs) xs (λ us. turns_learnt us xs) (place n is) refl (place n vs) refl e

pub turns_line : (m : Model) (is vs : List Bytes) (w : Written) → Counted w →
    let ns : Names = record { variables = learnt is vs w.arguments; instructions = is } in
    Turns (length vs) (reads (instruction m ns w)) (length (learnt is vs w.arguments))
turns_line m is vs w c =
    let all = learnt is vs w.arguments in
    subst⁻¹ (λ os. Turns (length vs) os (length all)) (reads_written m (record { variables = all; instructions = is }) w c) (turns_learnt m is all vs w.arguments refl)
