-- Texts of rules that are refused, with the answers of another implementation, over the house pile of width 4. Assumes nothing.
use Rattle.std.proofs.Common.{◌≡◌, [], ◌∷◌, codes, refl}
use Rattle.vocabulary.specs.Names.{operation_named}
use Rattle.text.specs.Faults.{refused, fault}
use Rattle.text.specs.RuleTexts.{read_rule}
use Rattle.text.proofs.Piles.{house4}

fault_2_1 : read_rule house4 (codes "t rule\n%r = add %x, %x\n=> 0\n%r = shl %x -129\nend\n") ≡ refused (fault 2 1)
unfolding operation_named
fault_2_1 = refl

fault_2_2 : read_rule house4 (codes "rule t\n%r = add %x %y %y\n=>\n%r = add %y, %x\nend\n") ≡ refused (fault 2 2)
unfolding operation_named
fault_2_2 = refl

fault_2_3 : read_rule house4 (codes "rule t\n%a = freeze %x\n%r = freeze %a\n=> =>\n%r = freeze %x\nend\n") ≡ refused (fault 2 4)
unfolding operation_named
fault_2_3 = refl

fault_2_4 : read_rule house4 (codes "rule t\n%a = freeze %x\n%b = freeze %x\n%r = xor %a, %b\n=> neg\n%a = freeze %x\n%r = xor %a, %a\nend\n") ≡ refused (fault 2 5)
unfolding operation_named
fault_2_4 = refl

fault_2_5 : read_rule house4 (codes "rule 42\n%x ,=, add , nuw,%42 , #8\nend\n%x =,,add ,nuw , 8 , %42\nend\n") ≡ refused (fault 2 3)
unfolding operation_named
fault_2_5 = refl

fault_2_6 : read_rule house4 (codes "rule counted\n%s0 = xor %v0, neg\n%r = xor %s0, %v4\n=>\n%s0 = copy %v0\n%s1 = copy 1\n%s2 = copy %v0\n%s3 = copy %v0\n%s4 = copy %v0\n%r = copy %s4\nend\n") ≡ refused (fault 2 2)
unfolding operation_named
fault_2_6 = refl

fault_3_1 : read_rule house4 (codes "rule a\n%A1 = freeze nsw #4294967296\n=>\n%z = freeze %c\n%A1 = freeze %z\nend\n") ≡ refused (fault 3 2)
unfolding operation_named
fault_3_1 = refl

fault_3_2 : read_rule house4 (codes "rule in\n%in = mul 2, -1\n%c = lshr nsw %y 99999999999999999999999\n%X = ule %c, %c\n=>\n%nuw = copy %y\n%end = select %nuw, %nuw, %y\n%r = shl %y, %end\n%X = sle %r, %copy\nend\n") ≡ refused (fault 3 3)
unfolding operation_named
fault_3_2 = refl

fault_3_3 : read_rule house4 (114 ∷ 117 ∷ 108 ∷ 101 ∷ 32 ∷ 116 ∷ 10 ∷ 37 ∷ 114 ∷ 32 ∷ 61 ∷ 32 ∷ 97 ∷ 110 ∷ 100 ∷ 32 ∷ 45 ∷ 49 ∷ 50 ∷ 57 ∷ 32 ∷ 37 ∷ 120 ∷ 10 ∷ 61 ∷ 62 ∷ 10 ∷ 37 ∷ 114 ∷ 32 ∷ 37 ∷ 114 ∷ 32 ∷ 61 ∷ 32 ∷ 99 ∷ 111 ∷ 112 ∷ 121 ∷ 32 ∷ 37 ∷ 120 ∷ 10 ∷ 101 ∷ 110 ∷ 13 ∷ 100 ∷ 10 ∷ []) ≡ refused (fault 3 2)
unfolding operation_named
fault_3_3 = refl

fault_3_4 : read_rule house4 (codes " rule  end,\n%0 = sub %z -4294967297\n=> #3\n%0 = eq 30 7\nend\n") ≡ refused (fault 3 2)
unfolding operation_named
fault_3_4 = refl

fault_3_5 : read_rule house4 (codes "rule , add\n%r , =  sub , %add,%add\n%ret,,=,,slt  -1,,%r\n%y,,= , sub  %ret,%r\n=>\n%r =, sub ,%add,,%add\n  \n%ret = slt 99999999999999999999999 %r\n%y =,sub,%ret , %r\nend\n") ≡ refused (fault 3 8)
unfolding operation_named
fault_3_5 = refl

fault_4_1 : read_rule house4 (codes "rule counted\n%s0 = xor %v0, %v2\n%x = xor %s0 %v1\n%s2 = xor %s1, %v0\n%s3 = xor %s2, %v0\n%s4 = xor %s3, %v1\n%s5 = xor %s4, %v0\n%s6 = xor %s5, %x\n%s7 = xor %s6, %v1\n%s8 = xor %s7, %v1\n%r = xor %s8, %v0\n=>\n%s0 = copy %0\n%s1 = copy %s0\n%r = copy %s1\nend\n") ≡ refused (fault 4 10)
unfolding operation_named
fault_4_1 = refl

fault_4_2 : read_rule house4 (codes "rule counted\n%s0 = xor %s3 %v1\n%s1 = xor %s0, %v3\n%s2 = xor %s1, %v2\n%s3 = xor %s2, %v0\n%r = xor %s3, %v2\n=>\n%s0 = copy %v0\n%s1 = copy %s0\n%s2 = copy %s1\n%s3 = copy %s2\n%s4 = copy 42\n%r = copy #99999999999999999999\nend\n") ≡ refused (fault 4 5)
unfolding operation_named
fault_4_2 = refl

fault_4_3 : read_rule house4 (codes "rule counted\n%s0 = xor %v0, %v1\n%s1 = xor %s0, %v1\n%s2 = xor %s1, %v1\n%s3 = xor %s2, %v1\n%s4 = xor %s3, %v1\n%s5 = xor %s4, %v0\n%s6 = xor %s5, %v1\n%s7 = xor %s6, %v0\n%s8 = xor %s7, %v1\n%r = xor %s8, %v1\n=>\n%s0 = copy %s1\n%s1 = copy %s3\n%s2 = copy %new0\n%s3 = copy %v0\n%s4 = copy %v0\n%s5 = copy %s4\n%s6 = copy %s5\n%s7 = copy %v0\n%r = copy %s7\nend\n") ≡ refused (fault 4 10)
unfolding operation_named
fault_4_3 = refl

fault_4_4 : read_rule house4 (codes "rule counted\n%s0 = xor %v0, %v1\n%s1 = xor %s0, %v2\n%s2 = xor %s1, %v3\n%s3 = xor %s2, %s3\n%s4 = xor %s3, %v1\n%s5 = xor %s4, %v2\n%s6 = xor %s5, %v2\n%r = xor %s6, %v0\n=>\n%s0 %s0 = copy %v0\n%s1 = copy %s0\n%s2 = copy %s2\n%s3 = copy %v0\n%r = copy %s3\nend\n") ≡ refused (fault 4 5)
unfolding operation_named
fault_4_4 = refl

fault_4_5 : read_rule house4 (codes "rule counted\n%s0 = xor %v0, %v0\n%s1 = xor %s0, %v1\n%s2 = xor %s1, %v0\n%s3 = xor %s2, %v4\n%s4 = xor %s3, %v4\n%s5 = xor %s4, %v2\n%s6 = xor %s5, %s6\n%s7 = xor %s6, %v4\n%r = xor %s7, %v0\n=>\n%s0 = copy %v0\n%s1 = copy %v0\n%s2 = copy %v0\n%s3 = copy %s2\n%s4 = copy %s3\n%r = copy %v0\nend\n") ≡ refused (fault 4 8)
unfolding operation_named
fault_4_5 = refl

fault_4_6 : read_rule house4 (codes "rule counted\n%s0 = xor %v0, %v5\n%s2 = xor %s1, %v3\n%s3 = xor %s2, %v3\n%s4 = xor %s3, %v3\n%s5 = xor %s4, %v5\n%s6 = xor %s5, %s6\n%s7 = xor %s6, %v4\n%r = xor %s7, %v5\n=>\n%s0 = copy %v0\n%s1 = copy %s0\n%s2 = copy %v0\n%s3 = copy %v0\n%s4 = copy #65534\n%s5 = copy %v0\n%r = copy %new1\nend\n") ≡ refused (fault 4 7)
unfolding operation_named
fault_4_6 = refl

fault_5_1 : read_rule house4 (codes "rule add\n%r = freeze %z\n%z = sdiv nsw #58 %x\n%in = slt ,%z %z\n=>\n%in = freeze nuw #1\nend\n") ≡ refused (fault 5 3)
unfolding operation_named
fault_5_1 = refl

fault_5_2 : read_rule house4 (codes "rule counted\n%s0 = xor %v0, %s0\n%s1 = xor %new1 -71\n%s2 = xor %s1, %s2\n%r = xor %s2, %v1\n=>\n%s0 undef = copy %v0 000000000000000000000000000001\n%r = copy %s0\nend\n") ≡ refused (fault 5 2)
unfolding operation_named
fault_5_2 = refl

fault_5_3 : read_rule house4 (codes "rule counted\n%s0 = xor %v0, %v5\n%s1 = xor %s0, %s1\n%s2 = xor %s1, %v1\n%r = xor nuw %s2 %v1\n=>\n%s0 = copy freeze\n%s1 = copy %v0\n%s2 = copy -13\n%s3 = copy %v0\n%s4 = copy copy %v0\n%r = copy %\nend\n") ≡ refused (fault 5 3)
unfolding operation_named
fault_5_3 = refl

fault_5_4 : read_rule house4 (codes "rule rule\n%x = copy -8\n%y = urem 1, %x\n%X = ult %y, %000000000000000\n=>\n%x = slt #0, #8\n%X = sdiv -1 %new0\nend\n") ≡ refused (fault 5 7)
unfolding operation_named
fault_5_4 = refl

fault_5_5 : read_rule house4 (codes "rule t\n%a = sdiv exact #00001 %y\n%r = mul %a, %y\n=>\n%r = copy %x\nend\n") ≡ refused (fault 5 5)
unfolding operation_named
fault_5_5 = refl

fault_5_6 : read_rule house4 (codes "rule t\n%r = sdiv nsw exact %x %r\n=> %abcdefghijklmnop\n") ≡ refused (fault 5 2)
unfolding operation_named
fault_5_6 = refl

fault_6_1 : read_rule house4 (codes "rule t\n%r = sdiv exact nsw exact %x %new1\n=>\n%r = sdiv %x, %y\nend\n") ≡ refused (fault 6 2)
unfolding operation_named
fault_6_1 = refl

fault_6_2 : read_rule house4 (codes "rule,ret\n%A1 ,= , xor  -1,,%nuw\n%ret,,= ,select  %A1,,%nuw ,0\n%r ,= , sle,%ret,0\n=>\n%A1 , =, xor, #1 , %nuw\n%ret, =, select  %A1  %nuw ,#0\n%b,,=,,select ,%A1 %nuw,,#0\n%a =  mul,,%ret  %nuw\n%r = sle exact %ret 0\n;\nend,\n") ≡ refused (fault 6 10)
unfolding operation_named
fault_6_2 = refl

fault_6_3 : read_rule house4 (codes "rule,,add \n%000000000000000 = ult nsw #0 1\n =>\n  \n%add, = freeze,#1\n%000000000000000 = , select  %add %add , %add\nend\n") ≡ refused (fault 6 2)
unfolding operation_named
fault_6_3 = refl

fault_6_4 : read_rule house4 (codes "rule t\n%r = sdiv %x, -1\n=>\n%r = udiv nsw 42 %x\nend\n") ≡ refused (fault 6 4)
unfolding operation_named
fault_6_4 = refl

fault_6_5 : read_rule house4 (codes "rule , X\n%x = lshr,,%A1  %A1 \n%add = add nuw %x %x\n%end,=,,add,#13  4\n %b =  ult,%x 4 , \n=>\n%x  =  and, 4,,1\n%add =, freeze,,8\n%b = freeze nsw %x\nend\n") ≡ refused (fault 6 9)
unfolding operation_named
fault_6_5 = refl

fault_7_1 : read_rule house4 (codes "rule t\n%r = mul %x, 0\n=>\n%r = srem %x #104\nend\n") ≡ refused (fault 7 4)
unfolding operation_named
fault_7_1 = refl

fault_7_2 : read_rule house4 (codes "rule t\n%a = freeze -67\n%b = freeze %x\n%r = sub %a, %b\n=>\n%r = copy 0\nend\n") ≡ refused (fault 7 2)
unfolding operation_named
fault_7_2 = refl

fault_7_3 : read_rule house4 (codes "rule t\n%a = sub 0 172\n%r = sub %new0 %a\n=>\n%r = add nsw %x, %y\nend\n") ≡ refused (fault 7 2)
unfolding operation_named
fault_7_3 = refl

fault_7_4 : read_rule house4 (codes "rule  add \n%add , = sle  #7 8\n%copy = sle #65534 #71\n%X,,=,,mul  %copy ,%add\n=>\n%X  =, copy,3\nend\n") ≡ refused (fault 7 3)
unfolding operation_named
fault_7_4 = refl

fault_7_5 : read_rule house4 (codes "rule r\n%copy = urem 1 -30\n%a = xor %copy, %A1\n%0 = ne %a, %nuw\n%abcdefghijklmno = ne %r, %A1\n%b = or %copy, %A1\n=>\n%b = slt 0, 1\nend\n") ≡ refused (fault 7 2)
unfolding operation_named
fault_7_5 = refl

fault_8_1 : read_rule house4 (codes "rule t\n%a = udiv %x, %y\n%b = mul nsw %new2 %y\n%r = sub %x, %b\n=>\n%r = urem %x, %y\nend\n") ≡ refused (fault 8 0)
unfolding operation_named
fault_8_1 = refl

fault_8_2 : read_rule house4 (codes "rule r\n%0 = ult #5, -1\n=>\n%w = ult -3, -1\nend\n") ≡ refused (fault 8 0)
unfolding operation_named
fault_8_2 = refl

fault_8_3 : read_rule house4 (codes "rule end\n%A1 = or 12, #8\n%end = select %A1, %c, #8\n%copy = add %c, %0\n=>\n%copy = xor #3, %0\nend\n") ≡ refused (fault 8 0)
unfolding operation_named
fault_8_3 = refl

fault_8_4 : read_rule house4 (codes "rule t\n%n = eq %c, 0\n%r = select %new2 %x %y\n=>\n%r = select %c, %y, %x\nend\n") ≡ refused (fault 8 0)
unfolding operation_named
fault_8_4 = refl

fault_8_5 : read_rule house4 (codes "rule  y\n%add ,= , and,,-8 %X\n,%x,,= ule , %add ,%X\n%0 = eq %new0 %add\n=>\n%add,=  shl %X 15\n; a comment\n%x =,,and  -8  %X\n%42  =,,ule,,%x,,%X\n%0  =,,eq , %42 ,1\nend \n") ≡ refused (fault 8 0)
unfolding operation_named
fault_8_5 = refl

fault_9_1 : read_rule house4 (codes "rule copy\n%A1 = freeze %c\n%abcdefghijklmno = freeze %A1\n=>\n%A1 = freeze %c\n%X = freeze %A1\n%nuw = freeze %X\n%0 = freeze %nuw\n%abcdefghijklmno = freeze %0\nend\n") ≡ refused (fault 9 0)
unfolding operation_named
fault_9_1 = refl

fault_9_2 : read_rule house4 (codes "rule , copy , \n%X = ,freeze, %b\n %abcdefghijklmno ,= freeze %X\n%000000000000000 ,=  freeze,%abcdefghijklmno\n%in = , freeze  %000000000000000\n=>\n;%r = end\n%ret,,=  freeze ,%b\n\n%X , =  freeze ,%ret\n%in  = ,freeze  %X\n , \nend\n") ≡ refused (fault 9 0)
unfolding operation_named
fault_9_2 = refl

fault_9_3 : read_rule house4 (codes "rule c\n%A1 = freeze %rule\n%c = freeze %A1\n%b = freeze %c\n%X = freeze %b\n%copy = freeze %X\n%000000000000000 = freeze %copy\n=>\n%A1 = freeze %rule\n%c = freeze %A1\n%b = freeze %c\n%X = freeze %b\n%copy = freeze %X\n%ret = freeze %copy\n%000000000000000 = freeze %ret\nend\n") ≡ refused (fault 9 0)
unfolding operation_named
fault_9_3 = refl

fault_9_4 : read_rule house4 (codes "rule,,a\n%b,=,,freeze,,%nuw\n;\n%c,,= freeze , %b\n%A1,=  freeze ,%c\n%y =,,freeze, %A1\n%copy,,=, freeze,%y\n %a,,=, freeze ,%copy , \n=>,\n%A1  = ,freeze ,%nuw\n%c  = ,freeze ,%A1\n\n%X =  freeze ,%c\n%end,,=,freeze  %X\n%z  = freeze,,%end\n%000000000000000, =,,freeze , %z\n%copy  = freeze  %000000000000000\n %a, =,freeze , %copy \nend\n") ≡ refused (fault 9 0)
unfolding operation_named
fault_9_4 = refl

fault_9_5 : read_rule house4 (codes "rule b\n%b = freeze -1\n%X = freeze %b\n%rule = freeze %X\n%ret = and %rule, #1\n%x = sle %copy, %ret\n=>\n%000000000000000 = freeze #15\n%ret = freeze %000000000000000\n%y = freeze %000000000000000\n%b = freeze %ret\n%X = and %b, 1\n%x = sle %copy, %X\nend\n") ≡ refused (fault 9 0)
unfolding operation_named
fault_9_5 = refl
