-- An instruction line that has a form has as many operands as its operation takes. Assumes nothing.
use Rattle.std.proofs.Common.{◌≡◌, Bool, true, false, eqb, List, [], ◌∷◌, length, Some, None, codes, Option, sym, refl, ap, ◌∙◌, subst}
use Rattle.std.proofs.lemmas.Bool.{eqb-true}
use Rattle.vocabulary.specs.declared.operation.Operation.{Operation}
use Rattle.scan.specs.Pieces.{Bytes}
use Rattle.vocabulary.specs.Names.{same_word, operation_named, operand_count}
use Rattle.text.specs.Words.{only_if, and_then, each, plain, name, argument}
use Rattle.text.specs.Forms.{Written, Form, rule_line, arrow_line, end_line, in_line, ret_line, instruction_line, Opening, opens_rule, opens_arrow, opens_end, opens_in, opens_ret, opens_instruction, opening, lone, behind_marks, leading_marks, arguments, written, form_of, form}
use Rattle.text.proofs.Tests.{no_some}
use Rattle.text.proofs.Lines.{Counted}

pub then_some : {A B : Type 0} (o : Option A) (f : A → Option B) (y : B) → and_then o f ≡ Some y → (x : A) × (o ≡ Some x) × (f x ≡ Some y)
then_some (Some x) f y e = (x, refl, e)
then_some None f y e = absurd (no_some (sym e))

pub only_some : {A : Type 0} (b : Bool) (x y : A) → only_if b x ≡ Some y → (b ≡ true) × (x ≡ y)
only_some true x y e = (refl, cc)
only_some false x y e = absurd (no_some (sym e))

abbrev Shaped : Form → Type 0
Shaped rule_line = Unit {0}
Shaped arrow_line = Unit {0}
Shaped end_line = Unit {0}
Shaped (in_line ns) = Unit {0}
Shaped (ret_line n) = Unit {0}
Shaped (instruction_line w) = Counted w

shaped_is : (f g : Form) → ◌≡◌ {A = Option Form} (Some f) (Some g) → Shaped f → Shaped g
shaped_is f g e s = let same : f ≡ g = cc in subst Shaped same s

shaped_written : (n : Bytes) (op : Operation) (ws : List Bytes) (f : Form) → written n op ws ≡ Some f → Shaped f
shaped_written n op ws f e =
    let (args, a, b) = then_some (arguments op (behind_marks ws)) _ f e in
    let (read, c, d) = then_some (each argument (behind_marks ws)) (λ args. only_if (eqb (length args) (operand_count op)) args) args a in
    let (test, same) = only_some (eqb (length read) (operand_count op)) read args d in
    let count : length args ≡ operand_count op = ap length (sym same) ∙ eqb-true (length read) (operand_count op) test in
    shaped_is (instruction_line (record { name = n; operation = op; marks = leading_marks ws; arguments = args })) f b count

shaped_of : (o : Opening) (w : Bytes) (ws : List Bytes) (f : Form) → form_of o w ws ≡ Some f → Shaped f
shaped_of opens_rule w ws f e =
    let (n, a, b) = then_some (lone ws) (λ n. only_if (plain n) rule_line) f e in
    subst Shaped (only_some (plain n) rule_line f b).1 tt
shaped_of opens_arrow w [] f e = shaped_is arrow_line f e tt
shaped_of opens_arrow w (x ∷ ws) f e = absurd (no_some (sym e))
shaped_of opens_end w [] f e = shaped_is end_line f e tt
shaped_of opens_end w (x ∷ ws) f e = absurd (no_some (sym e))
shaped_of opens_in w ws f e = let (ns, a, b) = then_some (each name ws) (λ ns. Some (in_line ns)) f e in shaped_is (in_line ns) f b tt
shaped_of opens_ret w ws f e =
    let (v, a, b) = then_some (lone ws) (λ v. and_then (name v) (λ n. Some (ret_line n))) f e in
    let (n, c, d) = then_some (name v) (λ n. Some (ret_line n)) f b in
    shaped_is (ret_line n) f d tt
shaped_of opens_instruction w [] f e = absurd (no_some (sym e))
shaped_of opens_instruction w (x ∷ []) f e = absurd (no_some (sym e))
shaped_of opens_instruction w (x ∷ o ∷ ws) f e =
    let (v, a, b) = then_some (only_if (same_word x (codes "=")) w) (λ v. and_then (name v) (λ n. and_then (operation_named o) (λ op. written n op ws))) f e in
    let (n, c, d) = then_some (name v) (λ n. and_then (operation_named o) (λ op. written n op ws)) f b in
    let (op, g, h) = then_some (operation_named o) (λ op. written n op ws) f d in
    shaped_written n op ws f h

shaped : (ws : List Bytes) (f : Form) → form ws ≡ Some f → Shaped f
shaped [] f e = absurd (no_some (sym e))
shaped (w ∷ ws) f e = shaped_of (opening w) w ws f e

pub counted : (ws : List Bytes) (w : Written) → form ws ≡ Some (instruction_line w) → Counted w
counted ws w e = shaped ws (instruction_line w) e
