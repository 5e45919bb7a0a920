pub mod Entries
pub mod Tight
