-- The steps of rewriting: one record freed, taken or changed, and all else as it was. Assumes nothing.
use Rattle.std.specs.Prelude.{ℕ, cond, List, [], ◌∷◌, ◌==◌}
use Rattle.semantics.specs.Programs.{Placed}
use Rattle.semantics.specs.Changes.{Loaded}
use Rattle.semantics.specs.declared.Instruction.{Instruction}

-- another body and other free records; inputs and result stay
abbrev pub with_body : Loaded → List Placed → List ℕ → Loaded
with_body l body free = record { program = record { inputs = l.program.inputs; body = body; result = l.program.result }; free = free }

-- all but the instruction in record `at`
abbrev pub taken_out : ℕ → List Placed → List Placed
taken_out at [] = []
taken_out at (x ∷ xs) = cond (x.at == at) (taken_out at xs) (x ∷ taken_out at xs)

-- a record of the program is freed, and is the first to be taken again
abbrev pub released : ℕ → Loaded → Loaded
released at l = with_body l (taken_out at l.program.body) (at ∷ l.free)

-- an instruction is put in before record `place`, or last where that is none of the body
abbrev pub put_in : ℕ → Placed → List Placed → List Placed
put_in place y [] = y ∷ []
put_in place y (x ∷ xs) = cond (x.at == place) (y ∷ x ∷ xs) (x ∷ put_in place y xs)

abbrev pub entered_in : ℕ → Instruction → Loaded → List ℕ → Loaded
entered_in place i l [] = l
entered_in place i l (at ∷ free) = with_body l (put_in place (record { at = at; what = i }) l.program.body) free

-- an instruction goes into the first free record, before record `place`
abbrev pub entered : ℕ → Instruction → Loaded → Loaded
entered place i l = entered_in place i l l.free

-- another instruction stands in record `at`
abbrev pub put_into : ℕ → Instruction → List Placed → List Placed
put_into at i [] = []
put_into at i (x ∷ xs) = cond (x.at == at) (record { at = at; what = i }) x ∷ put_into at i xs

abbrev pub replaced : ℕ → Instruction → Loaded → Loaded
replaced at i l = with_body l (put_into at i l.program.body) l.free
