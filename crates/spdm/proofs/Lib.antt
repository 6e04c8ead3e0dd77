pub mod Walked
pub mod Walks
