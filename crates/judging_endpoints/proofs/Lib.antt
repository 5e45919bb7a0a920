pub mod Options
pub mod Tight
