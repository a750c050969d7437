-- Instruction lines by their tokens against what they spell. Assumes nothing.
use Rattle.std.proofs.Common.{◌≡◌, ℕ, ◌+◌, ◌≤◌, Bool, true, false, cond, ◌||◌, List, [], ◌∷◌, map, length, Some, None, Ok, Err, Result, sym, refl, ap, ◌∙◌, arith}
use lib.Bits.{bit_or}
use Rattle.std.proofs.lemmas.List.{length-map, length-take}
use Rattle.std.proofs.lemmas.Bool.{or_parts}
use Rattle.domain.specs.declared.fault.DomainFault.{DomainFault}
use Rattle.domain.specs.declared.fault.DomainFault.TheVariants.{NoSettledCode}
use Rattle.vocabulary.specs.declared.marks.Marks.{Marks}
use Rattle.vocabulary.specs.declared.operation.Operation.{Operation}
use Rattle.domain.specs.Model.{Model}
use Rattle.vocabulary.specs.Names.{operand_count}
use Rattle.semantics.specs.declared.Operand.{Operand}
use Rattle.semantics.specs.declared.Instruction.{Instruction}
use Rattle.semantics.specs.Operations.{facts}
use Rattle.semantics.proofs.Counts.{reads_count, reads_few}
use Rattle.text.specs.Words.{Argument, any}
use Rattle.text.specs.Forms.{Written as Spelt}
use Rattle.text.specs.Faults.{first_of, unless}
use Rattle.text.specs.Instructions.{Names, known, operand, made, instruction, outside, number_outside, unreadable, name_wrong, bad_marks, unsettled, code_missing, instruction_fault, filler, sum}
use Rattle.reader.specs.declared.fault.TextFault.{TextFault}
use Rattle.reader.specs.declared.fault.TextFault.TheVariants.{NumberOutside, TooMany, BadName}
use Rattle.reader.specs.declared.fault.At.{At}
use Rattle.reader.specs.declared.written.Written.{Written}
use Rattle.reader.specs.Tokens.{Seen, seen, told, taken, tokens, Spells}
use Rattle.reader.specs.ReadFaults.{located, answered}
use Rattle.reader.specs.Meanings.{far, strange, some_far, some_strange, text_fault, meaning, meaning_at, and_then, instruction_of, domain_on, found_on, marks_or_fault}
use Rattle.reader.proofs.Told.{far_told, strange_told, meaning_told, any_told}
use Rattle.reader.proofs.Borne.{borne}

-- an operation takes at most three operands
pub few_operands : (op : Operation) → operand_count op ≤ 3
few_operands op = let i = made op 0 [] in let a = reads_count i in let b = reads_few i in omega arith

-- all answers, or the first refusal
abbrev gathered : List (Result Operand DomainFault) → Result (List Operand) DomainFault
gathered [] = Ok []
gathered (r ∷ rs) = and_then r (λ o. and_then (gathered rs) (λ os. Ok (o ∷ os)))

-- the places of the operands hold what was gathered
module _ (op : Operation) (marks : ℕ) where
  abbrev filled : Result Operand DomainFault → Result Operand DomainFault → Result Operand DomainFault → Result Instruction DomainFault
  filled r s t =
      and_then r
      (λ x. and_then s
      (λ y. and_then t (λ z. Ok (record { operation = op; marks = record { bits = marks }; first = x; second = y; third = z }))))

  abbrev from_all : Result (List Operand) DomainFault → Result Instruction DomainFault
  from_all r = and_then r (λ os. Ok (made op marks os))

  one : (r : Result Operand DomainFault) → filled r (Ok filler) (Ok filler) ≡ from_all (gathered (r ∷ []))
  one (Ok x) = refl
  one (Err f) = refl

  two : (r s : Result Operand DomainFault) → filled r s (Ok filler) ≡ from_all (gathered (r ∷ s ∷ []))
  two (Ok x) (Ok y) = refl
  two (Ok x) (Err f) = refl
  two (Err f) s = refl

  three : (r s t : Result Operand DomainFault) → filled r s t ≡ from_all (gathered (r ∷ s ∷ t ∷ []))
  three (Ok x) (Ok y) (Ok z) = refl
  three (Ok x) (Ok y) (Err f) = refl
  three (Ok x) (Err f) t = refl
  three (Err f) s t = refl

  all_filled : (m : Model) (ns : Names) (ts : List Seen) → length ts ≤ 3 → filled (meaning_at m ns ts 0) (meaning_at m ns ts 1) (meaning_at m ns ts 2) ≡ from_all (gathered (map (meaning m ns) ts))
  all_filled m ns [] few = refl
  all_filled m ns (x ∷ []) few = one (meaning m ns x)
  all_filled m ns (x ∷ y ∷ []) few = two (meaning m ns x) (meaning m ns y)
  all_filled m ns (x ∷ y ∷ z ∷ []) few = three (meaning m ns x) (meaning m ns y) (meaning m ns z)
  all_filled m ns (x ∷ y ∷ z ∷ t ∷ ts) few = absurd (omega arith)

module _ (m : Model) (ns : Names) where
  joined : (b c : Bool) (o : Operand) (os : List Operand) → and_then (cond b (Err NoSettledCode) (Ok o)) (λ x. and_then (cond c (Err NoSettledCode) (Ok os)) (λ xs. Ok (x ∷ xs))) ≡ cond (b || c) (Err NoSettledCode) (Ok (o ∷ os))
  joined true c o os = refl
  joined false true o os = refl
  joined false false o os = refl

  gathered_told : (xs : List Argument) → any outside xs ≡ false → gathered (map (meaning m ns) (map told xs)) ≡ cond (any (unsettled m) xs) (Err NoSettledCode) (Ok (map (operand m ns) xs))
  gathered_told [] h = refl
  gathered_told (a ∷ xs) h =
      let (here, later) = or_parts (outside a) _ h in
      (λ j. and_then (meaning_told m ns a here j) (λ o. and_then (gathered_told xs later j) (λ os. Ok (o ∷ os))))
      ∙ joined (unsettled m a) (any (unsettled m) xs) (operand m ns a) (map (operand m ns) xs)

  made_told : (op : Operation) (marks : ℕ) (b : Bool) (os : List Operand) → from_all op marks (cond b (Err NoSettledCode) (Ok os)) ≡ cond b (Err NoSettledCode) (Ok (made op marks os))
  made_told op marks true os = refl
  made_told op marks false os = refl

-- a line with no fault of the text's has no number outside, and is not one too many
fault_free_by : (b too_many : Bool) (line : ℕ) (later : Result Marks TextFault) (marks : Marks) → located line (cond b (Err NumberOutside) (cond too_many (Err TooMany) later)) ≡ Ok marks → (b ≡ false) × (too_many ≡ false)
fault_free_by true too_many line later marks e = let z : ◌≡◌ {A = ℕ} 0 1 = cc in absurd (omega arith)
fault_free_by false true line later marks e = let z : ◌≡◌ {A = ℕ} 0 1 = cc in absurd (omega arith)
fault_free_by false false line later marks e = (refl, refl)

pub fault_free : (too_many : Bool) (ns : Names) (w : Written) (line : ℕ) (marks : Marks) (r : Result Marks (At TextFault)) → r ≡ located line (text_fault too_many ns w) → r ≡ Ok marks → (some_far w ≡ false) × (too_many ≡ false)
fault_free too_many ns w line marks r is fine = fault_free_by (some_far w) too_many line _ marks (sym is ∙ fine)

-- the smallest fault of a line, or its instruction
smallest : (outside-one too_many name mark code : Bool) (line : ℕ) (marks : Marks) (r : Marks → Result Instruction DomainFault) (i : Instruction) → (outside-one ≡ false → mark ≡ false → r marks ≡ cond code (Err NoSettledCode) (Ok i))
    → answered (found_on line (cond outside-one (Err NumberOutside) (cond too_many (Err TooMany) (cond name (Err BadName) (marks_or_fault (cond mark None (Some marks)))))) r) ≡ unless (first_of outside-one 3 (first_of too_many 4 (first_of name 5 (first_of mark 6 (first_of code 7 None))))) i
smallest true too_many name mark code line marks r i h = refl
smallest false true name mark code line marks r i h = refl
smallest false false true mark code line marks r i h = refl
smallest false false false true code line marks r i h = refl
smallest false false false false true line marks r i h = ap (λ x. answered (domain_on line x)) (h refl refl)
smallest false false false false false line marks r i h = ap (λ x. answered (domain_on line x)) (h refl refl)

module _ (m : Model) (ns : Names) (w : Written) (s : Spelt) (spells : Spells w s) where
  -- what the tokens tell is told of the operands
  operands_told : (f : Seen → Bool) (g : Argument → Bool) → ((a : Argument) → f (told a) ≡ g a) → any f (tokens w) ≡ any g s.arguments
  operands_told f g same = ap (any f) spells.operands ∙ any_told f g same s.arguments

  name_told : (some_strange ns w || known ns w.name.now) ≡ name_wrong ns s
  name_told = (λ j. operands_told (strange ns) (unreadable ns) (strange_told ns) j || known ns (spells.name j))

  -- the marks that are told where none is misused
  abbrev told_marks : Marks
  told_marks = record { bits = sum s.marks }

  marks_told : bad_marks s.operation s.marks ≡ false → bit_or (facts w.operation).unwritten (sum s.marks) ≡ (facts s.operation).unwritten + sum s.marks
  marks_told h = (λ j. bit_or (facts (spells.operation j)).unwritten (sum s.marks)) ∙ borne s.operation s.marks h

  instruction_told : number_outside s ≡ false → bad_marks s.operation s.marks ≡ false → instruction_of m ns told_marks w ≡ cond (code_missing m s) (Err NoSettledCode) (Ok (instruction m ns s))
  instruction_told near fine =
      let bits = bit_or (facts w.operation).unwritten (sum s.marks) in
      all_filled w.operation bits m ns (tokens w) (omega (arith, length-map (taken w) seen, length-take (operand_count w.operation) (w.first ∷ w.second ∷ w.third ∷ []), few_operands w.operation))
      ∙ ap (λ ts. from_all w.operation bits (gathered (map (meaning m ns) ts))) spells.operands
      ∙ ap (from_all w.operation bits) (gathered_told m ns s.arguments near)
      ∙ made_told m ns w.operation bits (code_missing m s) (map (operand m ns) s.arguments)
      ∙ (λ j. cond (code_missing m s) (Err NoSettledCode) (Ok (made (spells.operation j) (marks_told fine j) (map (operand m ns) s.arguments))))

  pub line_told : (line : ℕ) (too_many : Bool) → answered (found_on line (text_fault too_many ns w) (λ marks. instruction_of m ns marks w)) ≡ unless (instruction_fault m too_many ns s) (instruction m ns s)
  line_told line too_many =
      (λ j. answered (found_on line (cond (operands_told far outside far_told j) (Err NumberOutside) (cond too_many (Err TooMany) (cond (name_told j) (Err BadName) (marks_or_fault (spells.marks j))))) (λ marks. instruction_of m ns marks w)))
      ∙ smallest (number_outside s) too_many (name_wrong ns s) (bad_marks s.operation s.marks) (code_missing m s) line told_marks (λ marks. instruction_of m ns marks w) (instruction m ns s) instruction_told
