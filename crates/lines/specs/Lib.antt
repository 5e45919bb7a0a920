pub mod Names
pub mod Numbers
pub mod Spans
pub mod Words
pub mod Requests
pub mod Gather
pub mod Counts
