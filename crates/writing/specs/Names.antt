-- The declared types of `words` under one roof: the specs and proofs of this crate bring them from here.
pub use Rattle.words.specs.declared.numbers.Slot.{Slot}
pub use Rattle.words.specs.declared.capabilities.Position.{Position}
pub use Rattle.words.specs.declared.capabilities.Position.TheVariants.{Empty, Page, Child}
