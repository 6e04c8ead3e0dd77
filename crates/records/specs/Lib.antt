pub mod Few
pub mod Records
pub mod Additions
pub mod Limits
pub mod Layout
pub mod Laws
