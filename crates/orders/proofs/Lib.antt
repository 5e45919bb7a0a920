pub mod Tight
