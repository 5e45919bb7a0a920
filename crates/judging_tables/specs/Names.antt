-- The declared names of `words` that the proofs of this crate bring, under one roof.
pub use Rattle.words.specs.declared.numbers.Slot.{Slot}
