pub mod Names
pub mod Roots
