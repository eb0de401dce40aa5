pub mod Lookup
pub mod Identifier
pub mod Recording
