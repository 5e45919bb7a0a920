-- The declared types of src/ under one roof: the specs and proofs of this crate bring them from here.
pub use Rattle.lines.specs.declared.numbers.NumberFault.{NumberFault}
pub use Rattle.lines.specs.declared.numbers.NumberFault.TheVariants.{NotANumber, TooLarge}
pub use Rattle.lines.specs.declared.spans.Span.{Span}
pub use Rattle.lines.specs.declared.requests.Fault.{Fault}
pub use Rattle.lines.specs.declared.requests.Request.{Request}
pub use Rattle.lines.specs.declared.requests.Request.TheVariants.{Nothing, Boot, Show, Save, Load, Tick, Call}
