pub mod Given
pub mod OfKind
pub mod Arguments
pub mod Walks
pub mod Stand
