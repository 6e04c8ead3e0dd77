pub mod Commands
pub mod Complaints
pub mod Hex
pub mod Numbers
pub mod Rests
pub mod Spoken
pub mod Texts
pub mod Words
