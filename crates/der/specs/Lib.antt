pub mod Heads
pub mod Items
pub mod Kinds
pub mod Contents
pub mod Encodes
