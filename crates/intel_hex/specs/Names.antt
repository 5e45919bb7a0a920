-- The declared types of src/ and the refusal that comes from `words`, under one roof: the specs and proofs of this crate bring them from here.
pub use Rattle.intel_hex.specs.declared.faults.Fault.{Fault}
pub use Rattle.intel_hex.specs.declared.faults.Fault.TheVariants.{Line, Sum, Address, End}
pub use Rattle.words.specs.declared.refusals.Refusal.TheVariants.{BadState}
