pub mod Slots
pub mod Lay
pub mod Tight
