pub mod Sums
pub mod Keys
pub mod Counting
pub mod Named
pub mod Tight
