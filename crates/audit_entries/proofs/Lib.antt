pub mod Entries
pub mod Bounded
pub mod Vacant
pub mod Listed
pub mod Order
pub mod Tight
