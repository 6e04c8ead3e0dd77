pub mod Uses
pub mod Registers
pub mod Grants
pub mod Strikes
