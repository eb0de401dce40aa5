pub mod Filing
pub mod InnerFiling
