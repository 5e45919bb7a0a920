-- The declared types of `words` that the specs and proofs of this crate name, under one roof.
pub use Rattle.words.specs.declared.numbers.Slot.{Slot}
pub use Rattle.words.specs.declared.numbers.Count.{Count}
pub use Rattle.words.specs.declared.capabilities.Kind.{Kind}
pub use Rattle.words.specs.declared.capabilities.Kind.TheVariants.{Table, Directory, Process, Endpoint}
pub use Rattle.words.specs.declared.capabilities.Capability.{Capability}
pub use Rattle.words.specs.Names.{Place}
pub use Rattle.std.specs.Prelude.{None, Some}
pub use Rattle.words.specs.declared.capabilities.Position.{Position}
pub use Rattle.words.specs.declared.capabilities.Position.TheVariants.{Empty, Page, Child}
pub use Rattle.words.specs.declared.capabilities.Geometry.{Geometry}
pub use Rattle.words.specs.declared.fields.Words.{Words}
pub use Rattle.words.specs.declared.actions.Spot.{Spot}
pub use Rattle.words.specs.declared.actions.Action.{Action}
pub use Rattle.words.specs.declared.actions.Action.TheVariants.{CreateTable, CreateDirectory, CreateProcess, CreateEndpoint, Delete, Fill, Freeze, Remove, SetPosition, ChangeTable, ChangeDirectory, SetCount, Answer}
