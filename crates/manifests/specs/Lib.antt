pub mod Triples
pub mod Walks
pub mod Readings
pub mod Limits
pub mod Layout
pub mod Laws
