pub mod Cuts
pub mod Steps
pub mod Sound
pub mod Noted
