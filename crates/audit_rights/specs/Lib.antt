pub mod Names
pub mod ButChain
pub mod ByWords
