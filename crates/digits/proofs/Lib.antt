pub mod Classes
pub mod Tight
