pub mod Written
pub mod Tight
