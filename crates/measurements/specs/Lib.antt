pub mod Environments
pub mod Digests
pub mod Svns
pub mod Flags
pub mod Listed
pub mod Values
pub mod Measurements
pub mod Layout
