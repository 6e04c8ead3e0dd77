pub mod Numbers
pub mod Parts
pub mod Holders
pub mod Reads
pub mod Picks
