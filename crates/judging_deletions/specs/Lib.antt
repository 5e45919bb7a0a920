pub mod Names
pub mod Deletions
