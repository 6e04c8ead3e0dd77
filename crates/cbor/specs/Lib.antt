pub mod Heads
pub mod Items
pub mod Scalars
pub mod Holders
pub mod Encodes
pub mod Reads
