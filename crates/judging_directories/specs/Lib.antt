pub mod Names
pub mod Shaping
