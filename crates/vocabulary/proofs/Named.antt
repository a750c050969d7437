-- The operation that a word names.
use Rattle.std.proofs.Common.{◌≡◌, ℕ, Bool, true, List, [], ◌∷◌, Some, None, Option, ap, sym, arith}
use Rattle.std.specs.List.{find}
use Rattle.std.proofs.lemmas.Slice.Eq.{bytes_eq-Decides}
use Rattle.std.proofs.lemmas.Bool.Decides.{nat_tests}
use Rattle.vocabulary.specs.declared.operation.Operation.{Operation}
use Rattle.vocabulary.specs.Names.{same_word, name_of, operations, operation_named, NamesOperation}

-- what `find` finds passes its test
found : {X : Type 0} (test : X → Bool) (xs : List X) (y : X) → find test xs ≡ Some y → test y ≡ true
found test [] y e = cc
found test (x ∷ xs) y e = grind (arith, nat_tests, found test xs y)

-- each name names its operation
own_name : (op : Operation) → operation_named (name_of op) ≡ Some op
unfolding operation_named
own_name op = grind arith

pub names_operation : (word : List ℕ) (r : Option Operation) → r ≡ operation_named word → NamesOperation word r
unfolding operation_named
names_operation word (Some op) e = sym ((bytes_eq-Decides word (name_of op)).0 (found (λ o. same_word word (name_of o)) operations op (sym e)))
names_operation word None e = λ op same. cc (own_name op, ap operation_named same)
