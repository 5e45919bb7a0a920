-- The declared names of `words` that the specs and proofs of this crate bring, under one roof.
pub use Rattle.words.specs.declared.numbers.Slot.{Slot}
pub use Rattle.words.specs.declared.refusals.Refusal.TheVariants.{BadCaller}
