pub mod Tests
pub mod Judged
pub mod Flags
pub mod GrantsBack
pub mod Told
pub mod Tight
