pub mod Firsts
pub mod Storing
