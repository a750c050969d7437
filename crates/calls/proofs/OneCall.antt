-- What the promises over lists of calls say of one call.
use Rattle.std.proofs.Common.{◌≡◌, ℕ, List, [], ◌∷◌, ◌++◌, sym, ap, ◌∙◌}
use Rattle.domain.specs.Model.{Model, Lawful, Outcome}
use Rattle.calls.specs.Bench.{State, Call, evaluated}
use Rattle.calls.specs.Histories.{answer, next, Promised, AnswersForLoaded}
use Rattle.calls.proofs.Promise.{kept, one_more}

pub promised : (m : Model) → Lawful m → (st : State) (c : Call) (st2 : State) → st2 ≡ next m st c → Promised m st c st2
promised m law st c st2 e calls led = (e ∙ ap (λ s. next m s c) led ∙ sym (one_more m calls c).state, kept m law (calls ++ (c ∷ [])))

pub answers_for_loaded : (m : Model) → Lawful m → (st : State) (ins cs : List ℕ) (o : Outcome) → answer m st (Call.evaluate ins cs) ≡ evaluated o → AnswersForLoaded m st ins o
answers_for_loaded m law st ins cs o e calls led = (kept m law calls).evaluates ins cs o (ap (λ s. answer m s (Call.evaluate ins cs)) (sym led) ∙ e)
