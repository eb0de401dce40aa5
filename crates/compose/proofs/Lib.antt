pub mod Laws
pub mod Sizes
pub mod Streams
pub mod Lengths
pub mod Outcomes
pub mod Unique
