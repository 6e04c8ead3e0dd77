pub mod Figures
pub mod Reading
pub mod Texts
