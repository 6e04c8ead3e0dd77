pub mod Bytes
pub mod Digests
pub mod Environments
pub mod Values
pub mod Claims
pub mod Limits
pub mod Same
