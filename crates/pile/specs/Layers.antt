-- A domain with a chosen layer keeps the laws of the domain below.
use Rattle.domain.specs.Model.{Model, Lawful}
use Rattle.layers.specs.TrapLaws.{trapping_lawful}
use Rattle.layers.specs.PoisonLaws.{poisoned_lawful}
use Rattle.pile.specs.declared.Layered.{Layered}
use Rattle.pile.specs.declared.Layered.TheVariants.{Bare, Trapping, Poisoning}
use Rattle.pile.specs.Piles.{layered}

pub layered_lawful : {D : Type 0} (model : D → Model) → ((d : D) → Lawful (model d)) → (s : Layered D) → Lawful (layered model s)
layered_lawful model below (Bare d) = below d
layered_lawful model below (Trapping d) = trapping_lawful (model d.below) d.marks.bits (below d.below)
layered_lawful model below (Poisoning d) = poisoned_lawful (model d.below) d.marks.bits (below d.below)
