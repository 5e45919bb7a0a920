pub mod Names
pub mod Ready
pub mod Raised
