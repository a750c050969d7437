-- Texts of programs that are refused, with the answers of another implementation, over the house pile of width 4. Assumes nothing.
use Rattle.std.proofs.Common.{◌≡◌, codes, refl}
use Rattle.vocabulary.specs.Names.{operation_named}
use Rattle.text.specs.Faults.{refused, fault}
use Rattle.text.specs.ProgramTexts.{read_program}
use Rattle.text.proofs.Piles.{house4}

fault_2_1 : read_program house4 (codes "in, %copy ,%end,%c  %rule\n%A1 ,= eq  3 1\n%r =,eq , %rule, -1\n\n%ret, = , lshr, %r,,%r\nret %ret %ret\n") ≡ refused (fault 2 6)
unfolding operation_named
fault_2_1 = refl

fault_2_2 : read_program house4 (codes "in %000000000000000 %abcdefghijklmno %r, %A1, %nuw, %add, %z, %b\n-106 = ule %b %copy\n%ret = urem 000000000000000000000000000001 %copy\n%in = srem %add, %nuw\nret %in\n") ≡ refused (fault 2 2)
unfolding operation_named
fault_2_2 = refl

fault_2_3 : read_program house4 (codes "in  %b ,%42 %y , %ret  %rule\n , \n%x  =,,add , %y,-1\n%add,,=,lshr,,exact, -1  %x\n007 %000000000000000 = ashr %ret %ret\n%in , = select , %add %y , %x\n%end ,=,sub ,%rule ,%ret\n  \n %r ,=  ashr , 0 %b , \nret  %r\n") ≡ refused (fault 2 5)
unfolding operation_named
fault_2_3 = refl

fault_2_4 : read_program house4 (codes "in %x %A1 %c %z %rule %ret %b nuw\n;\n%abcdefghijklmno = copy #1\n%nuw = copy %abcdefghijklmno\n%copy = freeze #0\nret %copy\n") ≡ refused (fault 2 1)
unfolding operation_named
fault_2_4 = refl

fault_2_5 : read_program house4 (codes "in %X %r %0, %42\n%nuw = xor %r 1\n") ≡ refused (fault 2 3)
unfolding operation_named
fault_2_5 = refl

fault_2_6 : read_program house4 (codes "rule X\n%a = exact select #11 %A1 %ret\n%c = or %a, %0\n=>\n%000000000000000 = select #11, %A1, %ret\n%y = udiv %0, %000000000000000\n%c = or %000000000000000, %0\nend\n") ≡ refused (fault 2 1)
unfolding operation_named
fault_2_6 = refl

fault_3_1 : read_program house4 (codes "in\n%abcdefghijklmno = or 2, #2\n%z = freeze #4294967296\n%add = slt -2, %z\n%x = and %z %y\n") ≡ refused (fault 3 3)
unfolding operation_named
fault_3_1 = refl

fault_3_2 : read_program house4 (codes "in\n%x = ashr exact #99999999999999999999 0\n%r = ult %x, %x\n%X = and range %x -121\n%z = sub nuw nsw %x, %r\n%abcdefghijklmno = lshr exact %x, %z\n%X = sle #0, %r\nret %X\n") ≡ refused (fault 3 2)
unfolding operation_named
fault_3_2 = refl

fault_3_3 : read_program house4 (codes "in %i0 %i1 %i2 %i3 %i4 %i5 %i6 %i7\n%r0 = copy -4294967297\nret %r0 128\n") ≡ refused (fault 3 2)
unfolding operation_named
fault_3_3 = refl

fault_3_4 : read_program house4 (codes "in\n%000000000000000 = lshr nsw exact #65536 #3\nret %000000000000000\n") ≡ refused (fault 3 2)
unfolding operation_named
fault_3_4 = refl

fault_3_5 : read_program house4 (codes ",in , %x %c, %0 ,%A1,%rule ,%b,,%nuw,\n%X, =,sle,,-1, 3\n%add  = eq,,%nuw , %b\n;\n%in = select -3 #131072 %0\n , \nret, %in\n") ≡ refused (fault 3 5)
unfolding operation_named
fault_3_5 = refl

fault_4_1 : read_program house4 (codes "in %i0 %i1 %i2 %i3 %i4 %i5 %i6 %i7 %i8\n,;comment\n%r0 = copy %i2\nret %r0\n") ≡ refused (fault 4 1)
unfolding operation_named
fault_4_1 = refl

fault_4_2 : read_program house4 (codes "in %i0 %i0 %i2 %i3 %i4 %i5 %i6 %i7 %i8\n%r0 = copy 1\nret yr0\n") ≡ refused (fault 4 1)
unfolding operation_named
fault_4_2 = refl

fault_4_3 : read_program house4 (codes "in %i0 %i1 %i2 %i3 %i4 %i5 %i6 %i7 %i8 %i9\n%r0 = copy 26\nret %r0\n") ≡ refused (fault 4 1)
unfolding operation_named
fault_4_3 = refl

fault_4_4 : read_program house4 (codes "in %i0 %i1 %i2 %i3 %i0 %i5 %i6 %i0 %i8\n%r0 = copy -1\n%r0 = copy 0\nret %r0\n") ≡ refused (fault 4 1)
unfolding operation_named
fault_4_4 = refl

fault_4_5 : read_program house4 (codes "in %i0 %i1 %i2 %i3 %i4 %i5 %i6 %i7 %i8 %i9\n%r0 = copy -4294967297\nret %r0 r\n") ≡ refused (fault 4 1)
unfolding operation_named
fault_4_5 = refl

fault_5_1 : read_program house4 (codes ",\nin %abcdefghijklmno %add %z, %000000000000000, %r, %x, %nuw\n%y = shl nuw %nuw %new1\nret %y\n") ≡ refused (fault 5 3)
unfolding operation_named
fault_5_1 = refl

fault_5_2 : read_program house4 (codes "in %ret\n%b = lshr %ret, 13\n%in = mul %ret, -4\n%X = freeze %new2\n%copy = add %ret, %ret\nret %copy\n") ≡ refused (fault 5 4)
unfolding operation_named
fault_5_2 = refl

fault_5_3 : read_program house4 (codes "in %b\n%b = ult %add -88\n%000000000000000 = and %b, #1\n%add = add %b, 8\nret %add\n") ≡ refused (fault 5 2)
unfolding operation_named
fault_5_3 = refl

fault_5_4 : read_program house4 (codes " in, %abcdefghijklmno \n%c,,=  ashr , #0  #0\n%0 = mul range range %new1 %abcdefghijklmno\n%in = ult %abcdefghijklmno %abcdefghijklmno\nret, %in,\n") ≡ refused (fault 5 3)
unfolding operation_named
fault_5_4 = refl

fault_5_5 : read_program house4 (codes "in %c \n%z = and %A1, -4\n = and -4 %c\n%a = shl %x, %A1\nret %a\n") ≡ refused (fault 5 2)
unfolding operation_named
fault_5_5 = refl

fault_5_6 : read_program house4 (codes "in %add %000000000000000 %r\n%add = and 1 %r\nret %c\n") ≡ refused (fault 5 2)
unfolding operation_named
fault_5_6 = refl

fault_6_1 : read_program house4 (codes "in %X %a %b, %nuw, %abcdefghijklmno\n%r = ule range #4 -61\nret %r\n") ≡ refused (fault 6 2)
unfolding operation_named
fault_6_1 = refl

fault_6_2 : read_program house4 (codes "in,,%0  %r, %000000000000000\n%add = ule exact %0 #8\n%b, =,,sle,,%0, %000000000000000,\n , \nret ,%b\n") ≡ refused (fault 6 2)
unfolding operation_named
fault_6_2 = refl

fault_6_3 : read_program house4 (codes "in\n%in = mul 6, 3\n%y = urem %in, %in\n%A1 = slt -1, %y\n%000000000000000 = ne range #00001 #0\nret %000000000000000\n") ≡ refused (fault 6 5)
unfolding operation_named
fault_6_3 = refl

fault_6_4 : read_program house4 (codes "in %copy %in %nuw, %x, %a, %0, %42, %A1\n%z = sdiv %copy, %A1\n%y = add nuw %z, 4\n%ret = xor %copy, %in\n%end = ule %ret, %42\n%abcdefghijklmno = urem nsw 201 %A1\n%b = urem %copy, %A1\n") ≡ refused (fault 6 6)
unfolding operation_named
fault_6_4 = refl

fault_6_5 : read_program house4 (codes "in %000000000000000 %b %in\n%add = eq 0, %b\n%z = eq 7, %add\n%42 = ule exact 15 %z\nret %42\n") ≡ refused (fault 6 4)
unfolding operation_named
fault_6_5 = refl

fault_7_1 : read_program house4 (codes "in , %X,,%end %nuw,%z  %A1 %r , %rule\n%ret = and %end -41\n%ret,,= mul %x  %end\n%b , =,eq  %x  %A1\n %a = and , %A1, %b \n%in = and nsw nsw 1 %end\n%abcdefghijklmno,=,xor 0,,%ret\nret, %abcdefghijklmno\n") ≡ refused (fault 7 2)
unfolding operation_named
fault_7_1 = refl

fault_7_2 : read_program house4 (codes ",in,,%nuw %r , %a,%end,\n%rule = ashr %a #52\n%0 = ashr %a %r %nuw\n,%b =  sub ,nsw ,%0 ,%a , \n\nret,,%b\n") ≡ refused (fault 7 2)
unfolding operation_named
fault_7_2 = refl

fault_7_3 : read_program house4 (codes "in,,%in %add\n%copy,,=,ult  %in, %in\n%z = sle 4 %in\n%nuw = ule #221 %z\n %abcdefghijklmno,= , copy %in,\n,%rule  = sle,,%abcdefghijklmno, 6\n , \n%x ,= , sle  2 ,%in\nret, %x\n") ≡ refused (fault 7 4)
unfolding operation_named
fault_7_3 = refl

fault_7_4 : read_program house4 (codes "in %0 %add\n%copy = freeze %0\n%nuw = sub %add, %0\n%in = sub %0, 0\n%r = freeze %copy\n%a = lshr -1 -106\n%000000000000000 = ule %a, %in\n%X = mul %0, 0\n%42 = udiv %nuw, %add\n%ret = slt %0, %a\n%z = ne %add, %0\nret %z\n") ≡ refused (fault 7 6)
unfolding operation_named
fault_7_4 = refl

fault_7_5 : read_program house4 (codes "in %000000000000000 %x %z, %abcdefghijklmno, %A1\n%c = freeze #48\n%a = or #10, 0\n%r = \nret %r\n") ≡ refused (fault 7 2)
unfolding operation_named
fault_7_5 = refl
