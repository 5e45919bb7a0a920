-- The declared types of src/ under one roof: the specs and proofs of this crate bring them from here.
pub use Rattle.hex_reading.specs.declared.taking.Taken.{Taken}
pub use Rattle.hex_reading.specs.declared.taking.Taken.TheVariants.{On, Over}
pub use Rattle.hex_reading.specs.declared.faults.Unread.{Unread}
pub use Rattle.hex_reading.specs.declared.faults.Unread.TheVariants.{Faulty, BadState}
