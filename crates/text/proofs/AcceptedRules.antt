-- Texts of rules that are accepted, with the answers of another implementation, over the house pile of width 4. Assumes nothing.
use Rattle.std.proofs.Common.{◌≡◌, [], ◌∷◌, codes, refl}
use Rattle.vocabulary.specs.declared.operation.Operation.TheVariants.{Add, Sub, Mul, Shl, Ashr, Udiv, Urem, Sdiv, Xor, Eq, Ne, Ult, Slt, Copy, Freeze}
use Rattle.semantics.specs.declared.Operand.TheVariants.{Input, Record, Constant}
use Rattle.vocabulary.specs.Names.{operation_named}
use Rattle.text.specs.Faults.{accepted}
use Rattle.text.specs.Instructions.{made}
use Rattle.text.specs.RuleTexts.{read_rule}
use Rattle.text.proofs.Piles.{house4, rule}

accepted_1 : read_rule house4 (codes "rule t\n%r = mul %x, 1\n=>\n%r = copy %x\nend\n") ≡ accepted (rule 1 (made Mul 0 (Input 0 ∷ Constant 1 ∷ []) ∷ []) (made Copy 0 (Input 0 ∷ []) ∷ []))
unfolding operation_named
accepted_1 = refl

accepted_2 : read_rule house4 (codes "rule t\n%a = udiv exact %x, %y\n%r = mul %a, %y\n=>\n%r = copy %x\nend\n") ≡ accepted (rule 2 (made Udiv 4 (Input 0 ∷ Input 1 ∷ []) ∷ made Mul 0 (Record 1 ∷ Input 1 ∷ []) ∷ []) (made Copy 0 (Input 0 ∷ []) ∷ []))
unfolding operation_named
accepted_2 = refl

accepted_3 : read_rule house4 (codes "rule,abcdefghijklmno,\n; a comment comment\n%abcdefghijklmno = add nuw #1 %new2\n%b =,,ne %copy  %abcdefghijklmno\n=>\n%abcdefghijklmno ,=, mul,nuw %copy %copy\n%42 = mul %copy %abcdefghijklmno\n;\n,%b, =  shl,%copy  %copy\nend\n") ≡ accepted (rule 2 (made Add 1 (Constant 1 ∷ Input 0 ∷ []) ∷ made Ne 0 (Input 1 ∷ Record 1 ∷ []) ∷ []) (made Mul 1 (Input 1 ∷ Input 1 ∷ []) ∷ made Mul 0 (Input 1 ∷ Record 1 ∷ []) ∷ made Shl 8 (Input 1 ∷ Input 1 ∷ []) ∷ []))
unfolding operation_named
accepted_3 = refl

accepted_4 : read_rule house4 (codes "rule a\n%y = xor 1, 2\n%a = shl %y, %c\n=>\n%a = copy %c\nend\n") ≡ accepted (rule 1 (made Xor 0 (Constant 1 ∷ Constant 2 ∷ []) ∷ made Shl 8 (Record 1 ∷ Input 0 ∷ []) ∷ []) (made Copy 0 (Input 0 ∷ []) ∷ []))
unfolding operation_named
accepted_4 = refl

accepted_5 : read_rule house4 (codes "rule t\n%r = add %new1 %x\n=>\n%r = shl %x, 1\nend\n") ≡ accepted (rule 2 (made Add 0 (Input 0 ∷ Input 1 ∷ []) ∷ []) (made Shl 8 (Input 1 ∷ Constant 1 ∷ []) ∷ []))
unfolding operation_named
accepted_5 = refl

accepted_6 : read_rule house4 (codes "rule t\n%r = eq %x -007\n=>\n%r = copy 1\nend\n") ≡ accepted (rule 1 (made Eq 0 (Input 0 ∷ Constant 9 ∷ []) ∷ []) (made Copy 0 (Constant 1 ∷ []) ∷ []))
unfolding operation_named
accepted_6 = refl

accepted_7 : read_rule house4 (codes "rule in\n%add = ult #2, 2\n=>\n%copy = freeze -2\n%add = ult 2, %copy\nend\n") ≡ accepted (rule 0 (made Ult 0 (Constant 2 ∷ Constant 2 ∷ []) ∷ []) (made Freeze 0 (Constant 14 ∷ []) ∷ made Ult 0 (Constant 2 ∷ Record 1 ∷ []) ∷ []))
unfolding operation_named
accepted_7 = refl

accepted_8 : read_rule house4 (codes "rule 256\n%A1 = eq %abcdefghijklmno, %in\n%x = urem %A1, %A1\n=>\n%x = copy %in\nend\n") ≡ accepted (rule 2 (made Eq 0 (Input 0 ∷ Input 1 ∷ []) ∷ made Urem 0 (Record 1 ∷ Record 1 ∷ []) ∷ []) (made Copy 0 (Input 1 ∷ []) ∷ []))
unfolding operation_named
accepted_8 = refl

accepted_9 : read_rule house4 (codes "rule t\n%r = sdiv %x, -1\n=>\n%r = sub %x %x\nend\n") ≡ accepted (rule 1 (made Sdiv 0 (Input 0 ∷ Constant 15 ∷ []) ∷ []) (made Sub 0 (Input 0 ∷ Input 0 ∷ []) ∷ []))
unfolding operation_named
accepted_9 = refl

accepted_10 : read_rule house4 (codes "rule X\n%000000000000000 = freeze #3\n%X = slt %abcdefghijklmno, %000000000000000\n=>\n%rule = eq #6, #4\n%X = eq %abcdefghijklmno, %abcdefghijklmno\nend\n") ≡ accepted (rule 1 (made Freeze 0 (Constant 3 ∷ []) ∷ made Slt 0 (Input 0 ∷ Record 1 ∷ []) ∷ []) (made Eq 0 (Constant 6 ∷ Constant 4 ∷ []) ∷ made Eq 0 (Input 0 ∷ Input 0 ∷ []) ∷ []))
unfolding operation_named
accepted_10 = refl

accepted_11 : read_rule house4 (codes "rule counted\n%s0 = xor %v0 %v0\n%s1 = xor %s0, %v0\n%s2 = xor %s1, %v0\n%s3 = xor %s2, %v0\n%s4 = xor %s3, %v0\n%s5 = xor %s4, %v0\n%r = xor %s5, %v0\n=>\n%s0 = copy %v0\n%r = copy %v0\nend\n") ≡ accepted (rule 1 (made Xor 0 (Input 0 ∷ Input 0 ∷ []) ∷ made Xor 0 (Record 1 ∷ Input 0 ∷ []) ∷ made Xor 0 (Record 2 ∷ Input 0 ∷ []) ∷ made Xor 0 (Record 3 ∷ Input 0 ∷ []) ∷ made Xor 0 (Record 4 ∷ Input 0 ∷ []) ∷ made Xor 0 (Record 5 ∷ Input 0 ∷ []) ∷ made Xor 0 (Record 6 ∷ Input 0 ∷ []) ∷ []) (made Copy 0 (Input 0 ∷ []) ∷ made Copy 0 (Input 0 ∷ []) ∷ []))
unfolding operation_named
accepted_11 = refl

accepted_12 : read_rule house4 (codes "rule t\n%r = sub %x, %x\n=>\n%r = copy 0\nend\n") ≡ accepted (rule 1 (made Sub 0 (Input 0 ∷ Input 0 ∷ []) ∷ []) (made Copy 0 (Constant 0 ∷ []) ∷ []))
unfolding operation_named
accepted_12 = refl

accepted_13 : read_rule house4 (codes "rule counted\n%r = xor %v0, %v1\n=>\n%s0 = copy %v0\n%s1 = copy %s0\n%s2 = copy %s1\n%s3 = copy %s2\n%r = copy %s3\nend\n") ≡ accepted (rule 2 (made Xor 0 (Input 0 ∷ Input 1 ∷ []) ∷ []) (made Copy 0 (Input 0 ∷ []) ∷ made Copy 0 (Record 1 ∷ []) ∷ made Copy 0 (Record 2 ∷ []) ∷ made Copy 0 (Record 3 ∷ []) ∷ made Copy 0 (Record 4 ∷ []) ∷ []))
unfolding operation_named
accepted_13 = refl

accepted_14 : read_rule house4 (codes "rule t\n%a = sub %x, %y\n%r = ashr %a %y\n=>\n%r = copy %x\nend\n") ≡ accepted (rule 2 (made Sub 0 (Input 0 ∷ Input 1 ∷ []) ∷ made Ashr 8 (Record 1 ∷ Input 1 ∷ []) ∷ []) (made Copy 0 (Input 0 ∷ []) ∷ []))
unfolding operation_named
accepted_14 = refl

accepted_15 : read_rule house4 (codes ",rule ,b , \n%copy, = mul %b ,%b\n%rule,,=,,eq ,%copy  %b\n%000000000000000 , = ne,%rule,,%b\n=>\n%copy  = mul ,%b  %b\n%rule, =  eq,%copy  %b\n%000000000000000 = ne 5 %rule\nend\n") ≡ accepted (rule 1 (made Mul 0 (Input 0 ∷ Input 0 ∷ []) ∷ made Eq 0 (Record 1 ∷ Input 0 ∷ []) ∷ made Ne 0 (Record 2 ∷ Input 0 ∷ []) ∷ []) (made Mul 0 (Input 0 ∷ Input 0 ∷ []) ∷ made Eq 0 (Record 1 ∷ Input 0 ∷ []) ∷ made Ne 0 (Constant 5 ∷ Record 2 ∷ []) ∷ []))
unfolding operation_named
accepted_15 = refl

accepted_16 : read_rule house4 (codes "rule t\n%r = add nuw nsw %x, %y\n=>\n%r = sub nuw %y %x\nend\n") ≡ accepted (rule 2 (made Add 3 (Input 0 ∷ Input 1 ∷ []) ∷ []) (made Sub 1 (Input 1 ∷ Input 0 ∷ []) ∷ []))
unfolding operation_named
accepted_16 = refl
