pub mod Standing
pub mod Compared
pub mod Walked
pub mod Tight
