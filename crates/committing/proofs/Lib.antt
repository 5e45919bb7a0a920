pub mod Standing
pub mod Ready
pub mod Sizes
pub mod Laws
pub mod Tight
