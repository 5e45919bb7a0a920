-- The declared types of `words` under one roof: the specs and proofs of this crate bring them from here.

pub use Rattle.words.specs.declared.numbers.Slot.{Slot}
pub use Rattle.words.specs.declared.numbers.CapabilityNumber.{CapabilityNumber}
pub use Rattle.words.specs.declared.numbers.KernelAddress.{KernelAddress}
pub use Rattle.words.specs.declared.numbers.Count.{Count}
pub use Rattle.words.specs.declared.refusals.Refusal.{Refusal}
pub use Rattle.words.specs.declared.refusals.Refusal.TheVariants.{CapRange, CapFrozen, CapType, CapNull, CapFlag, CapExist, CapKotbl, CapQuie, CapRefcnt, PgtHw, PgtAddr, PgtMap, PgtPerm, SivFull, SivAct, SivConflict, BadCall, BadCaller, BadState}
pub use Rattle.words.specs.declared.capabilities.Kind.{Kind}
pub use Rattle.words.specs.declared.capabilities.Kind.TheVariants.{Table, Directory, Memory, Process, Endpoint, Function}
pub use Rattle.words.specs.declared.capabilities.Frost.{Frost}
pub use Rattle.words.specs.declared.capabilities.Frost.TheVariants.{Thawed, Frozen}
pub use Rattle.words.specs.Names.{Origin}
pub use Rattle.std.specs.Prelude.{None, Some}
pub use Rattle.words.specs.declared.capabilities.Capability.{Capability}
pub use Rattle.words.specs.Names.{Place}
pub use Rattle.words.specs.declared.capabilities.Position.{Position}
pub use Rattle.words.specs.declared.capabilities.Position.TheVariants.{Empty, Page, Child}
pub use Rattle.words.specs.declared.capabilities.Geometry.{Geometry}
pub use Rattle.words.specs.declared.fields.Words.{Words}
pub use Rattle.words.specs.declared.actions.Spot.{Spot}
pub use Rattle.words.specs.declared.actions.Action.{Action}
pub use Rattle.words.specs.declared.actions.Action.TheVariants.{CreateTable, CreateDirectory, CreateProcess, CreateEndpoint, Delete, Fill, Freeze, Remove, SetPosition, ChangeTable, ChangeDirectory, SetCount, Answer}
pub use Rattle.words.specs.declared.grants.Grant.{Grant}
pub use Rattle.words.specs.declared.grants.Packed.{Packed}
pub use Rattle.words.specs.declared.capabilities.Span.{Span}
pub use Rattle.words.specs.declared.capabilities.Stretch.{Stretch}
pub use Rattle.words.specs.declared.capabilities.FunctionRange.{FunctionRange}
pub use Rattle.words.specs.declared.capabilities.Frame.{Frame}
