pub mod Numbers
pub mod Lines
pub mod Tight
