pub mod Names
pub mod Callers
