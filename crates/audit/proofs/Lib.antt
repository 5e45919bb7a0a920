pub mod Still
pub mod Order
pub mod Ready
pub mod Tight
