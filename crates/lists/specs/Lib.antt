pub mod Finding
pub mod Once
