pub mod Lying
pub mod Tight
