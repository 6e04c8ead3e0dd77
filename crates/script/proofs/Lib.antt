pub mod Appended
pub mod Decimal
pub mod Digits
pub mod Lines
pub mod Pieces
pub mod Skips
