pub mod Names
pub mod Flags
