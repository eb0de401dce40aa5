pub mod Merged
pub mod Copied
