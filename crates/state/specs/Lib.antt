pub mod Names
pub mod State
pub mod Layout
pub mod Bytes
pub mod Read
