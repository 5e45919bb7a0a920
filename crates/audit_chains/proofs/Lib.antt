pub mod Walk
pub mod Entry
pub mod Table
pub mod Tight
