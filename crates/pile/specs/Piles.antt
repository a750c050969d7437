-- The model of a pile that is chosen at run time. Assumes nothing.
use Rattle.std.specs.Prelude.{Option, Some, None}
use Rattle.std.specs.List.{fold}
use Rattle.domain.specs.Model.{Model}
use Rattle.words.specs.Words.{words}
use Rattle.layers.specs.Layers.{trapping, poisoned}
use Rattle.words.specs.declared.Words.{Words}
use Rattle.pile.specs.declared.Blueprint.{Blueprint}
use Rattle.pile.specs.declared.Layer.{Layer}
use Rattle.pile.specs.declared.Layer.TheVariants.{Trap, Poison}
use Rattle.pile.specs.declared.Layered.{Layered}
use Rattle.pile.specs.declared.Layered.TheVariants.{Bare, Trapping, Poisoning}

-- a model under a layer, or under none
abbrev pub over : Model → Option Layer → Model
over m None = m
over m (Some (Trap marks)) = trapping m marks.bits
over m (Some (Poison marks)) = poisoned m marks.bits

-- what a domain with a chosen layer answers
abbrev pub layered : {D : Type 0} → (D → Model) → Layered D → Model
layered model (Bare d) = model d
layered model (Trapping d) = trapping (model d.below) d.marks.bits
layered model (Poisoning d) = poisoned (model d.below) d.marks.bits

abbrev pub pile_model : Layered (Layered (Layered Words)) → Model
pile_model p = layered (layered (layered (λ w. words w.width))) p

-- the model that a blueprint describes
abbrev pub blueprint_model : Blueprint → Model
blueprint_model b = fold over (words b.width) b.layers
