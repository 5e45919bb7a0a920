pub mod Search
pub mod Tight
