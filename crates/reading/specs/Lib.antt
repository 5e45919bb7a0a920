pub mod Names
pub mod Tagged
pub mod Kinds
