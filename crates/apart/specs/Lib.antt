pub mod Names
pub mod Reach
pub mod Demand3
pub mod Example
