pub mod CallerTable
pub mod Tight
