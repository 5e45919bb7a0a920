-- The declared names of `words` that the specs and proofs of this crate bring, under one roof.
pub use Rattle.words.specs.declared.numbers.Slot.{Slot}
pub use Rattle.words.specs.declared.refusals.Refusal.TheVariants.{CapRefcnt}
pub use Rattle.words.specs.declared.capabilities.Capability.{Capability}
pub use Rattle.words.specs.declared.actions.Spot.{Spot}
pub use Rattle.words.specs.declared.capabilities.Frost.{Frost}
pub use Rattle.words.specs.Names.{Origin}
