-- The declared names of `words` that the specs and proofs of this crate bring, under one roof.
pub use Rattle.words.specs.declared.numbers.Slot.{Slot}
pub use Rattle.words.specs.declared.numbers.KernelAddress.{KernelAddress}
pub use Rattle.words.specs.declared.refusals.Refusal.TheVariants.{PgtHw}
pub use Rattle.words.specs.declared.capabilities.Geometry.{Geometry}
pub use Rattle.words.specs.declared.actions.Spot.{Spot}
pub use Rattle.words.specs.declared.actions.Action.{Action}
pub use Rattle.words.specs.declared.actions.Action.TheVariants.{CreateDirectory}
pub use Rattle.words.specs.declared.capabilities.Stretch.{Stretch}
