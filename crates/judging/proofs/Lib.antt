pub mod Numbered
pub mod Tight
