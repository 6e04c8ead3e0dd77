pub mod Written
pub mod Numbered
pub mod Measured
pub mod Limits
