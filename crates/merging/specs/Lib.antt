pub mod Merging
pub mod InnerMerging
