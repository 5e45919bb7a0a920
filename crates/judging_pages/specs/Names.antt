-- The declared names of `words` that the specs and proofs of this crate bring, under one roof.
pub use Rattle.words.specs.declared.numbers.Slot.{Slot}
pub use Rattle.words.specs.declared.refusals.Refusal.{Refusal}
pub use Rattle.words.specs.declared.refusals.Refusal.TheVariants.{CapFlag, PgtHw, PgtAddr, PgtMap, PgtPerm}
pub use Rattle.words.specs.declared.capabilities.Position.{Position}
pub use Rattle.words.specs.declared.capabilities.Position.TheVariants.{Empty, Page, Child}
pub use Rattle.words.specs.declared.fields.Words.{Words}
pub use Rattle.words.specs.declared.actions.Action.{Action}
pub use Rattle.words.specs.declared.actions.Action.TheVariants.{SetPosition}
pub use Rattle.words.specs.declared.capabilities.Span.{Span}
pub use Rattle.words.specs.declared.capabilities.Frame.{Frame}
