pub mod Traces
pub mod Entries
pub mod Streams
pub mod Placed
pub mod Opened
pub mod Compose
pub mod Trip
pub mod Written
