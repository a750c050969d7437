-- Readings of texts where a rule of reading could be taken in two ways, and the limits, over the house pile of width 4. Assumes nothing.
use Rattle.std.proofs.Common.{◌≡◌, [], ◌∷◌, ◌++◌, map, replicate, codes, refl}
use Rattle.vocabulary.specs.declared.operation.Operation.TheVariants.{Add, Sub, Shl, Copy, Freeze}
use Rattle.semantics.specs.declared.Operand.TheVariants.{Input, Record, Constant}
use Rattle.semantics.specs.Cases.{from}
use Rattle.vocabulary.specs.Names.{operation_named}
use Rattle.text.specs.Faults.{text_layer, domain_layer, rule_layer, book_layer, program_layer, layer_of, accepted, refused, fault}
use Rattle.text.specs.Instructions.{made}
use Rattle.text.specs.RuleTexts.{read_rule}
use Rattle.text.specs.ProgramTexts.{read_program}
use Rattle.text.proofs.Piles.{house_of, house4, rule, program}

-- the rule of the examples: y is the first variable
minus : read_rule house4 (codes "rule minus\n%a = sub 0, %y\n%r = sub %x, %a\n=>\n%r = add nsw %x, %y\nend\n") ≡ accepted (rule 2 (made Sub 0 (Constant 0 ∷ Input 0 ∷ []) ∷ made Sub 0 (Input 1 ∷ Record 1 ∷ []) ∷ []) (made Add 2 (Input 1 ∷ Input 0 ∷ []) ∷ []))
unfolding operation_named
minus = refl

-- the layers of the faults 1 to 22
layers : map layer_of (from 1 22) ≡ text_layer ∷ text_layer ∷ text_layer ∷ text_layer ∷ text_layer ∷ text_layer ∷ domain_layer ∷ rule_layer ∷ rule_layer ∷ book_layer ∷ book_layer ∷ book_layer ∷ program_layer ∷ book_layer ∷ program_layer ∷ program_layer ∷ program_layer ∷ program_layer ∷ program_layer ∷ program_layer ∷ program_layer ∷ domain_layer ∷ []
unfolding operation_named
layers = refl

-- 1: 4,097 bytes, and 4,096 of one comment, after which the text ends early
too_long : read_rule house4 (replicate 4097 59) ≡ refused (fault 1 0)
unfolding operation_named
too_long = refl

long : read_rule house4 (replicate 4096 59) ≡ refused (fault 2 2)
unfolding operation_named
long = refl

-- 2: text ending early
empty : read_rule house4 [] ≡ refused (fault 2 1)
unfolding operation_named
empty = refl

one_empty_line : read_program house4 (codes "\n") ≡ refused (fault 2 2)
unfolding operation_named
one_empty_line = refl

unfinished : read_rule house4 (codes "rule t") ≡ refused (fault 2 2)
unfolding operation_named
unfinished = refl

unfinished_line : read_rule house4 (codes "rule t\n") ≡ refused (fault 2 2)
unfolding operation_named
unfinished_line = refl

unfinished_target : read_rule house4 (codes "rule t\n%r = copy %x\n=>\n\n%r = copy %x\n; end") ≡ refused (fault 2 7)
unfolding operation_named
unfinished_target = refl

unfinished_program : read_program house4 (codes "in %x\n%r = copy %x\n") ≡ refused (fault 2 3)
unfolding operation_named
unfinished_program = refl

-- 2: lines of no form
few_operands : read_program house4 (codes "in %x\n%r = add %x") ≡ refused (fault 2 2)
unfolding operation_named
few_operands = refl

many_operands : read_program house4 (codes "in %x\n%r = add %x %x %x") ≡ refused (fault 2 2)
unfolding operation_named
many_operands = refl

no_such_mark : read_program house4 (codes "in %x\n%r = or disjoint %x %x") ≡ refused (fault 2 2)
unfolding operation_named
no_such_mark = refl

late_mark : read_program house4 (codes "in %x\n%r = add %x nuw %x") ≡ refused (fault 2 2)
unfolding operation_named
late_mark = refl

glued : read_program house4 (codes "in %x\n%r=add %x %x") ≡ refused (fault 2 2)
unfolding operation_named
glued = refl

long_name : read_program house4 (codes "in %abcdefghijklmnop") ≡ refused (fault 2 1)
unfolding operation_named
long_name = refl

second_name : read_rule house4 (codes "rule a b") ≡ refused (fault 2 1)
unfolding operation_named
second_name = refl

bare_hash : read_program house4 (codes "in\n%r = copy #") ≡ refused (fault 2 2)
unfolding operation_named
bare_hash = refl

bare_minus : read_program house4 (codes "in\n%r = copy -") ≡ refused (fault 2 2)
unfolding operation_named
bare_minus = refl

bare_percent : read_program house4 (codes "in %") ≡ refused (fault 2 1)
unfolding operation_named
bare_percent = refl

rule_percent : read_rule house4 (codes "rule %t") ≡ refused (fault 2 1)
unfolding operation_named
rule_percent = refl

rule_sign : read_rule house4 (codes "rule a_b") ≡ refused (fault 2 1)
unfolding operation_named
rule_sign = refl

rule_alone : read_rule house4 (codes "rule") ≡ refused (fault 2 1)
unfolding operation_named
rule_alone = refl

after_arrow : read_rule house4 (codes "rule t\n%r = copy %x\n=> %r") ≡ refused (fault 2 3)
unfolding operation_named
after_arrow = refl

after_end : read_rule house4 (codes "rule t\n%r = copy %x\n=>\n%r = copy %x\nend t") ≡ refused (fault 2 5)
unfolding operation_named
after_end = refl

two_results : read_program house4 (codes "in %x\n%r = copy %x\nret %r %r") ≡ refused (fault 2 3)
unfolding operation_named
two_results = refl

ret_number : read_program house4 (codes "in %x\n%r = copy %x\nret 1") ≡ refused (fault 2 3)
unfolding operation_named
ret_number = refl

no_operation : read_program house4 (codes "in %x\n%r = neg %x") ≡ refused (fault 2 2)
unfolding operation_named
no_operation = refl

capital_operation : read_program house4 (codes "in %x\n%r = ADD %x, %x") ≡ refused (fault 2 2)
unfolding operation_named
capital_operation = refl

no_equals : read_program house4 (codes "in %x\n%r := copy %x") ≡ refused (fault 2 2)
unfolding operation_named
no_equals = refl

plain_operand : read_program house4 (codes "in %x\n%r = copy x") ≡ refused (fault 2 2)
unfolding operation_named
plain_operand = refl

mark_for_operand : read_program house4 (codes "in %x\n%r = copy exact") ≡ refused (fault 2 2)
unfolding operation_named
mark_for_operand = refl

late_comment : read_program house4 (codes "in %x ; inputs") ≡ refused (fault 2 1)
unfolding operation_named
late_comment = refl

tab : read_program house4 (codes "in %x\n" ++ 9 ∷ codes "%r = copy %x") ≡ refused (fault 2 2)
unfolding operation_named
tab = refl

bad_numbers : read_program house4 (codes "in\n%r = add --1, +1") ≡ refused (fault 2 2)
unfolding operation_named
bad_numbers = refl

negative_code : read_program house4 (codes "in\n%r = copy #-1") ≡ refused (fault 2 2)
unfolding operation_named
negative_code = refl

-- letters and digits, and the bytes beside them
letters : read_program house4 (codes "in %AZaz09\n%r = copy %AZaz09\nret %r") ≡ accepted (program 1 (made Copy 0 (Input 0 ∷ []) ∷ []) 1)
unfolding operation_named
letters = refl

before_digits : read_program house4 (codes "in %/") ≡ refused (fault 2 1)
unfolding operation_named
before_digits = refl

behind_digits : read_program house4 (codes "in %:") ≡ refused (fault 2 1)
unfolding operation_named
behind_digits = refl

before_capitals : read_program house4 (codes "in %@") ≡ refused (fault 2 1)
unfolding operation_named
before_capitals = refl

behind_capitals : read_program house4 (codes "in %[") ≡ refused (fault 2 1)
unfolding operation_named
behind_capitals = refl

before_letters : read_program house4 (codes "in %`") ≡ refused (fault 2 1)
unfolding operation_named
before_letters = refl

behind_letters : read_program house4 (codes "in %{") ≡ refused (fault 2 1)
unfolding operation_named
behind_letters = refl

-- 2: out of order, and closing an empty part, before an unknown name
empty_source : read_rule house4 (codes "rule t\n=>") ≡ refused (fault 2 2)
unfolding operation_named
empty_source = refl

empty_target : read_rule house4 (codes "rule t\n%r = copy %x\n=>\nend") ≡ refused (fault 2 4)
unfolding operation_named
empty_target = refl

empty_program : read_program house4 (codes "in %x\nret %y") ≡ refused (fault 2 2)
unfolding operation_named
empty_program = refl

end_twice : read_rule house4 (codes "rule t\n%r = copy %x\n=>\n%r = copy %x\nend\nend") ≡ refused (fault 2 6)
unfolding operation_named
end_twice = refl

after_ret : read_program house4 (codes "in %x\n%r = copy %x\nret %r\n\n; done\nret %r") ≡ refused (fault 2 6)
unfolding operation_named
after_ret = refl

-- 3: the smallest number is told, whatever stands further left; the value decides
three_before_six : read_program house4 (codes "in %x\n%r = add exact %x, 256") ≡ refused (fault 3 2)
unfolding operation_named
three_before_six = refl

three_below : read_program house4 (codes "in %x\n%r = add %x, -129") ≡ refused (fault 3 2)
unfolding operation_named
three_below = refl

three_code : read_program house4 (codes "in %x\n%r = add %x, #65536") ≡ refused (fault 3 2)
unfolding operation_named
three_code = refl

three_long : read_program house4 (codes "in %x\n%r = add %x, 99999999999999999999") ≡ refused (fault 3 2)
unfolding operation_named
three_long = refl

-- the ends of the ranges are inside: no literal, or no code (7)
seven_least : read_program house4 (codes "in %x\n%r = add %x, -128") ≡ refused (fault 7 2)
unfolding operation_named
seven_least = refl

seven_most : read_program house4 (codes "in %x\n%r = add %x, 255") ≡ refused (fault 7 2)
unfolding operation_named
seven_most = refl

seven_code : read_program house4 (codes "in %x\n%r = add %x, #65535") ≡ refused (fault 7 2)
unfolding operation_named
seven_code = refl

-- and at width 8 they are literals
ends : read_program (house_of 8) (codes "in\n%r = add -128, 255\nret %r") ≡ accepted (program 0 (made Add 0 (Constant 128 ∷ Constant 255 ∷ []) ∷ []) 1)
unfolding operation_named
ends = refl

-- 4: the ninth input, also where two are equal; the fifth variable, also where it is the line's own name
ninth_input : read_program house4 (codes "in %a %b %c %d %e %f %g %h %a") ≡ refused (fault 4 1)
unfolding operation_named
ninth_input = refl

own_name_fifth : read_rule house4 (codes "rule t\n%a = select %p, %q, %s\n%b = add %a, %t\n%r = add %b, %r") ≡ refused (fault 4 4)
unfolding operation_named
own_name_fifth = refl

-- 5: the line's own name is a variable and then taken; variables are taken in the target; a source name is not readable there
own_name : read_rule house4 (codes "rule t\n%r = add %r, %x") ≡ refused (fault 5 2)
unfolding operation_named
own_name = refl

named_after_read : read_rule house4 (codes "rule t\n%a = copy %b\n%b = copy %a") ≡ refused (fault 5 3)
unfolding operation_named
named_after_read = refl

target_variable : read_rule house4 (codes "rule t\n%r = copy %x\n=>\n%x = copy 1") ≡ refused (fault 5 4)
unfolding operation_named
target_variable = refl

target_source_name : read_rule house4 (codes "rule t\n%a = copy %x\n%r = copy %a\n=>\n%r = copy %a") ≡ refused (fault 5 5)
unfolding operation_named
target_source_name = refl

input_twice : read_program house4 (codes "in %a %b %a") ≡ refused (fault 5 1)
unfolding operation_named
input_twice = refl

ret_input : read_program house4 (codes "in %x\n%r = copy %x\nret %x") ≡ refused (fault 5 3)
unfolding operation_named
ret_input = refl

-- 6: range is never written, and marks are written once
written_range : read_program house4 (codes "in %x\n%r = shl range %x, 1") ≡ refused (fault 6 2)
unfolding operation_named
written_range = refl

twice_marked : read_program house4 (codes "in %x\n%r = add nuw nsw nuw %x, 1") ≡ refused (fault 6 2)
unfolding operation_named
twice_marked = refl

-- 7: no literal, no code, and poison
no_literal : read_program house4 (codes "in %x\n%r = add %x, 16") ≡ refused (fault 7 2)
unfolding operation_named
no_literal = refl

poison : read_program house4 (codes "in %x\n%r = add %x, #16") ≡ refused (fault 7 2)
unfolding operation_named
poison = refl

no_code : read_program house4 (codes "in %x\n%r = add %x, #17") ≡ refused (fault 7 2)
unfolding operation_named
no_code = refl

-- 8 and 9: after the lines
unread : read_rule house4 (codes "rule t\n%a = copy %x\n%r = copy %x\n=>\n%r = copy %x\nend") ≡ refused (fault 8 0)
unfolding operation_named
unread = refl

last_names : read_rule house4 (codes "rule t\n%r = copy %x\n=>\n%s = copy %x\nend") ≡ refused (fault 8 0)
unfolding operation_named
last_names = refl

-- one variable and six freezes of the source make 17 × 16^6 cases, which is over 100,000,000; five make 17 × 16^5
nine : read_rule house4 (codes "rule t\n%a = freeze %x\n%b = freeze %a\n%c = freeze %b\n%d = freeze %c\n%e = freeze %d\n%r = freeze %e\n=>\n%r = copy %x\nend") ≡ refused (fault 9 0)
unfolding operation_named
nine = refl

five_freezes : read_rule house4 (codes "rule t\n%a = freeze %x\n%b = freeze %a\n%c = freeze %b\n%d = freeze %c\n%r = freeze %d\n=>\n%r = copy %x\nend") ≡ accepted (rule 1 (made Freeze 0 (Input 0 ∷ []) ∷ made Freeze 0 (Record 1 ∷ []) ∷ made Freeze 0 (Record 2 ∷ []) ∷ made Freeze 0 (Record 3 ∷ []) ∷ made Freeze 0 (Record 4 ∷ []) ∷ []) (made Copy 0 (Input 0 ∷ []) ∷ []))
unfolding operation_named
five_freezes = refl

-- accepted: commas and spaces alike, comments, zeros, names that look like words, a last line without byte 10
loose : read_program house4 (codes ",, in,,%in  %0,\n;x\n , ,\n%add,=,shl,nsw,,nuw %0 -0001 ,\n%ret = copy #0007\nret , %add") ≡ accepted (program 2 (made Shl 11 (Input 1 ∷ Constant 15 ∷ []) ∷ made Copy 0 (Constant 7 ∷ []) ∷ []) 1)
unfolding operation_named
loose = refl

-- a target may name its instructions as the source does, in another order
renamed : read_rule house4 (codes "rule end\n%a = copy %x\n%r = copy %a\n=>\n%b = copy %x\n%a = copy %b\n%r = copy %a\nend") ≡ accepted (rule 1 (made Copy 0 (Input 0 ∷ []) ∷ made Copy 0 (Record 1 ∷ []) ∷ []) (made Copy 0 (Input 0 ∷ []) ∷ made Copy 0 (Record 1 ∷ []) ∷ made Copy 0 (Record 2 ∷ []) ∷ []))
unfolding operation_named
renamed = refl
