pub mod Names
pub mod Runs
