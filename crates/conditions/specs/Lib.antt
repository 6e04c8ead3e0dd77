pub mod Wanted
pub mod Limits
