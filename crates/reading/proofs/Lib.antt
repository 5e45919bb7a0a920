pub mod ByKind
pub mod Tagged
pub mod Free
pub mod Tight
