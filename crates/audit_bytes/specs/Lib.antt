pub mod Names
pub mod Stands
pub mod Clean
