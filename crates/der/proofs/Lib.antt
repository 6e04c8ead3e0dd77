pub mod Runs
pub mod Encoded
pub mod Back
