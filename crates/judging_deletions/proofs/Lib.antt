pub mod ChildSearch
pub mod ChildWords
pub mod UserSearch
pub mod Tight
