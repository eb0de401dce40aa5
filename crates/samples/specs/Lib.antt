pub mod Differences
pub mod Trace
pub mod InnerTrace
