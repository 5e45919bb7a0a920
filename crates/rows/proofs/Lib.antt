pub mod Fine
pub mod Tight
