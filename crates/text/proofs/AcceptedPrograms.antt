-- Texts of programs that are accepted, with the answers of another implementation, over the house pile of width 4. Assumes nothing.
use Rattle.std.proofs.Common.{◌≡◌, [], ◌∷◌, codes, refl}
use Rattle.vocabulary.specs.declared.operation.Operation.TheVariants.{Add, Sub, Mul, Shl, Lshr, Ashr, Udiv, Urem, Sdiv, Srem, And, Or, Xor, Eq, Ne, Ult, Ule, Slt, Sle, Copy, Freeze, Select}
use Rattle.semantics.specs.declared.Operand.TheVariants.{Input, Record, Constant}
use Rattle.vocabulary.specs.Names.{operation_named}
use Rattle.text.specs.Faults.{accepted}
use Rattle.text.specs.Instructions.{made}
use Rattle.text.specs.ProgramTexts.{read_program}
use Rattle.text.proofs.Piles.{house4, program}

accepted_1 : read_program house4 (codes "in %000000000000000 %in %a, %42, %0\n%r = and %a, %in\n%abcdefghijklmno = copy %a\n%end = ult %r, %a\n%x = ashr exact 0, %a\nret %end\n") ≡ accepted (program 5 (made And 0 (Input 2 ∷ Input 1 ∷ []) ∷ made Copy 0 (Input 2 ∷ []) ∷ made Ult 0 (Record 1 ∷ Input 2 ∷ []) ∷ made Ashr 12 (Constant 0 ∷ Input 2 ∷ []) ∷ []) 3)
unfolding operation_named
accepted_1 = refl

accepted_2 : read_program house4 (codes ",in , %abcdefghijklmno,,%A1 ,%X %a,,%nuw,%z ,%in,\n%add, = ,or, #3 , #0\n %b =,or  14,,%a\n,ret  %b , \n") ≡ accepted (program 7 (made Or 0 (Constant 3 ∷ Constant 0 ∷ []) ∷ made Or 0 (Constant 14 ∷ Input 3 ∷ []) ∷ []) 2)
unfolding operation_named
accepted_2 = refl

accepted_3 : read_program house4 (codes "in,,%42,,%abcdefghijklmno ,%in\n;%r = end\n%z  = , add %42  3\n  \n%0  = ,ule  %in ,%in , \n %c ,=  add,,%z %0 , \n%x , = ,udiv ,exact , %42  1\n %nuw,,=,select, %0  %c,%abcdefghijklmno , \n%ret = , freeze,,%abcdefghijklmno\n,ret  %ret\n") ≡ accepted (program 3 (made Add 0 (Input 0 ∷ Constant 3 ∷ []) ∷ made Ule 0 (Input 2 ∷ Input 2 ∷ []) ∷ made Add 0 (Record 1 ∷ Record 2 ∷ []) ∷ made Udiv 4 (Input 0 ∷ Constant 1 ∷ []) ∷ made Select 0 (Record 2 ∷ Record 3 ∷ Input 1 ∷ []) ∷ made Freeze 0 (Input 1 ∷ []) ∷ []) 6)
unfolding operation_named
accepted_3 = refl

accepted_4 : read_program house4 (codes "in\n%b = sub 3, 1\n%X = ule %b, %b\n%ret = sle %b, %X\n%in = ne %ret, %ret\nret %in\n") ≡ accepted (program 0 (made Sub 0 (Constant 3 ∷ Constant 1 ∷ []) ∷ made Ule 0 (Record 1 ∷ Record 1 ∷ []) ∷ made Sle 0 (Record 1 ∷ Record 2 ∷ []) ∷ made Ne 0 (Record 3 ∷ Record 3 ∷ []) ∷ []) 4)
unfolding operation_named
accepted_4 = refl

accepted_5 : read_program house4 (codes "in %c %a %nuw, %copy\n%abcdefghijklmno = slt %a, %a\n%x = ult %abcdefghijklmno, %abcdefghijklmno\n%0 = sdiv %a, %a\n%A1 = sle %x, %a\n%42 = lshr %A1, 3\n%000000000000000 = and %42, %42\nret %000000000000000\n") ≡ accepted (program 4 (made Slt 0 (Input 1 ∷ Input 1 ∷ []) ∷ made Ult 0 (Record 1 ∷ Record 1 ∷ []) ∷ made Sdiv 0 (Input 1 ∷ Input 1 ∷ []) ∷ made Sle 0 (Record 2 ∷ Input 1 ∷ []) ∷ made Lshr 8 (Record 4 ∷ Constant 3 ∷ []) ∷ made And 0 (Record 5 ∷ Record 5 ∷ []) ∷ []) 6)
unfolding operation_named
accepted_5 = refl

accepted_6 : read_program house4 (codes "in %add %X %A1, %in, %nuw, %ret, %42\n%abcdefghijklmno = ult %ret #1\n%copy = xor %A1, %42\n%x = urem 0, %in\n%rule = ule %X, %A1\n%y = mul nuw %nuw, %abcdefghijklmno\n%b = xor %add, %42\nret %b\n") ≡ accepted (program 7 (made Ult 0 (Input 5 ∷ Constant 1 ∷ []) ∷ made Xor 0 (Input 2 ∷ Input 6 ∷ []) ∷ made Urem 0 (Constant 0 ∷ Input 3 ∷ []) ∷ made Ule 0 (Input 1 ∷ Input 2 ∷ []) ∷ made Mul 1 (Input 4 ∷ Record 1 ∷ []) ∷ made Xor 0 (Input 0 ∷ Input 6 ∷ []) ∷ []) 6)
unfolding operation_named
accepted_6 = refl

accepted_7 : read_program house4 (codes "in %end %abcdefghijklmno %in, %a, %42, %rule, %nuw, %0\n%ret = lshr %abcdefghijklmno %a\n%z = add nsw nuw %rule, %end\nret %z\n") ≡ accepted (program 8 (made Lshr 8 (Input 1 ∷ Input 3 ∷ []) ∷ made Add 3 (Input 5 ∷ Input 0 ∷ []) ∷ []) 2)
unfolding operation_named
accepted_7 = refl

accepted_8 : read_program house4 (codes "in %z %r %abcdefghijklmno, %0, %000000000000000\n%in = lshr %r, 7\n%copy = urem 9, %z\n%x = shl nuw nsw %0, %abcdefghijklmno\n%end = srem %copy, %x\nret %end\n") ≡ accepted (program 5 (made Lshr 8 (Input 1 ∷ Constant 7 ∷ []) ∷ made Urem 0 (Constant 9 ∷ Input 0 ∷ []) ∷ made Shl 11 (Input 3 ∷ Input 2 ∷ []) ∷ made Srem 0 (Record 2 ∷ Record 3 ∷ []) ∷ []) 4)
unfolding operation_named
accepted_8 = refl

accepted_9 : read_program house4 (codes "in %a %b %r, %42\n%ret = mul nsw -2, #3\n%copy = and %ret, %ret\nret %copy\n") ≡ accepted (program 4 (made Mul 2 (Constant 14 ∷ Constant 3 ∷ []) ∷ made And 0 (Record 1 ∷ Record 1 ∷ []) ∷ []) 2)
unfolding operation_named
accepted_9 = refl

accepted_10 : read_program house4 (codes " in,%X,,%z,,%0 , %x  %A1 , %nuw ,%42 , \n , \n%rule = or #14 %A1\nret ,%rule,\n") ≡ accepted (program 7 (made Or 0 (Constant 14 ∷ Input 4 ∷ []) ∷ []) 1)
unfolding operation_named
accepted_10 = refl

accepted_11 : read_program house4 (codes "\nin,,%rule, %end %b, %add\n,%nuw  =, sub nuw ,1 , 2,\n\n%a  = ,shl nuw %nuw , %b\nret %a\n") ≡ accepted (program 4 (made Sub 1 (Constant 1 ∷ Constant 2 ∷ []) ∷ made Shl 9 (Record 1 ∷ Input 2 ∷ []) ∷ []) 2)
unfolding operation_named
accepted_11 = refl

accepted_12 : read_program house4 (codes "in %add %a %nuw, %r\n%rule = add %a, %add\n%c = and %nuw, %rule\n%end = sub nsw %c, %rule\n%in = or %rule, %c\n%ret = select %end, %nuw, 0\n%A1 = eq 3, %a\n%0 = xor %a, %A1\n%z = ule %0, %add\n%copy = shl -1 %0\n%x = or %r, %add\nret %x\n") ≡ accepted (program 4 (made Add 0 (Input 1 ∷ Input 0 ∷ []) ∷ made And 0 (Input 2 ∷ Record 1 ∷ []) ∷ made Sub 2 (Record 2 ∷ Record 1 ∷ []) ∷ made Or 0 (Record 1 ∷ Record 2 ∷ []) ∷ made Select 0 (Record 3 ∷ Input 2 ∷ Constant 0 ∷ []) ∷ made Eq 0 (Constant 3 ∷ Input 1 ∷ []) ∷ made Xor 0 (Input 1 ∷ Record 6 ∷ []) ∷ made Ule 0 (Record 7 ∷ Input 0 ∷ []) ∷ made Shl 8 (Constant 15 ∷ Record 7 ∷ []) ∷ made Or 0 (Input 3 ∷ Input 0 ∷ []) ∷ []) 10)
unfolding operation_named
accepted_12 = refl

accepted_13 : read_program house4 (codes ",in , \n %in,=, ule , 0 0\n %ret  =  copy  %in\n;%r = end\n%X ,=,copy,%in\n%r, =  ult , %in,,%in\nret , %ret\n") ≡ accepted (program 0 (made Ule 0 (Constant 0 ∷ Constant 0 ∷ []) ∷ made Copy 0 (Record 1 ∷ []) ∷ made Copy 0 (Record 1 ∷ []) ∷ made Ult 0 (Record 1 ∷ Record 1 ∷ []) ∷ []) 2)
unfolding operation_named
accepted_13 = refl

accepted_14 : read_program house4 (codes " , \nin\n%0, = xor  1 ,4\n%c = lshr exact %0 %0\nret ,%0\n") ≡ accepted (program 0 (made Xor 0 (Constant 1 ∷ Constant 4 ∷ []) ∷ made Lshr 12 (Record 1 ∷ Record 1 ∷ []) ∷ []) 1)
unfolding operation_named
accepted_14 = refl

accepted_15 : read_program house4 (codes "in,,%0, %X, %a , %r\n%b , =, shl,,#0  #1\n%x, =,,ne ,%a %r\n;%r = end\n;%r = end\n%c,= slt, %a, %0\n , \n,ret,%c,\n") ≡ accepted (program 4 (made Shl 8 (Constant 0 ∷ Constant 1 ∷ []) ∷ made Ne 0 (Input 2 ∷ Input 3 ∷ []) ∷ made Slt 0 (Input 2 ∷ Input 0 ∷ []) ∷ []) 3)
unfolding operation_named
accepted_15 = refl

accepted_16 : read_program house4 (codes "in %abcdefghijklmno %nuw %000000000000000, %in, %X\n%add = freeze %X\n%ret = and %nuw, %add\n%end = udiv %ret, %ret\nret %end\n") ≡ accepted (program 5 (made Freeze 0 (Input 4 ∷ []) ∷ made And 0 (Input 1 ∷ Record 1 ∷ []) ∷ made Udiv 0 (Record 2 ∷ Record 2 ∷ []) ∷ []) 3)
unfolding operation_named
accepted_16 = refl
