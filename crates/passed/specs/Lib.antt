pub mod Names
pub mod Found
pub mod Passed
