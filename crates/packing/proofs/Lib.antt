pub mod Laws
pub mod Sinks
