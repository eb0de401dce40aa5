pub mod Writing
pub mod InnerSizes
pub mod InnerJob
