pub mod Digits
pub mod Stores
pub mod Runs
pub mod Tight
