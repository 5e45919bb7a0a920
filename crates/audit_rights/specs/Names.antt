-- The declared types of `words` under one roof: the specs and proofs of this crate bring them from here.
pub use Rattle.words.specs.declared.numbers.Slot.{Slot}
pub use Rattle.words.specs.declared.numbers.KernelAddress.{KernelAddress}
pub use Rattle.words.specs.declared.capabilities.Kind.{Kind}
pub use Rattle.words.specs.declared.capabilities.Kind.TheVariants.{Table, Directory, Memory, Process, Endpoint, Function}
pub use Rattle.words.specs.declared.capabilities.Frost.{Frost}
pub use Rattle.words.specs.declared.capabilities.Frost.TheVariants.{Thawed}
pub use Rattle.words.specs.Names.{Origin}
pub use Rattle.std.specs.Prelude.{None, Some}
pub use Rattle.words.specs.declared.capabilities.Capability.{Capability}
pub use Rattle.words.specs.Names.{Place}
