pub mod Digits
pub mod Runs
pub mod Finding
pub mod Spelling
pub mod Examples
pub mod Tight
