pub mod Known
pub mod Shown
