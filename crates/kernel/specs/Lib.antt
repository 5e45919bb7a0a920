pub mod Names
pub mod Demands
pub mod Script
pub mod Grants
