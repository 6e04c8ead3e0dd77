pub mod Collected
pub mod Leaving
pub mod Passed
pub mod Written
pub mod Limits
