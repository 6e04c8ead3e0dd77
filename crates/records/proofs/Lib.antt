pub mod Joined
pub mod Written
pub mod Limits
pub mod Rules
