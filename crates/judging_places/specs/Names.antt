-- The declared types of `words` that the proofs of this crate name, under one roof.
pub use Rattle.words.specs.declared.numbers.KernelAddress.{KernelAddress}
pub use Rattle.words.specs.declared.capabilities.Stretch.{Stretch}
