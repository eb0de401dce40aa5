pub mod Heads
pub mod Less
pub mod Words
pub mod Walk
pub mod Bytes
pub mod Found
