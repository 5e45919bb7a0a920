-- The declared types of `words` that the proofs of this crate name, under one roof.
pub use Rattle.words.specs.declared.numbers.Slot.{Slot}
pub use Rattle.words.specs.declared.capabilities.Kind.{Kind}
pub use Rattle.words.specs.declared.capabilities.Kind.TheVariants.{Table, Directory, Memory, Process, Endpoint, Function}
pub use Rattle.words.specs.declared.capabilities.Frost.{Frost}
pub use Rattle.words.specs.Names.{Origin, Place}
