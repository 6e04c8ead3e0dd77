pub mod Items
pub mod Gathers
pub mod Spoken
pub mod Tags
pub mod Added
pub mod Carried
pub mod Proved
