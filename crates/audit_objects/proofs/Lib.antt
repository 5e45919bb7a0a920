pub mod Checks
pub mod Asked
pub mod Listed
pub mod Tight
