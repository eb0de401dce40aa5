mod Steps
mod Plain
mod Found
pub mod Asked
pub mod Unique
