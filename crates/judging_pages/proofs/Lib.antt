pub mod Frames
pub mod Tight
