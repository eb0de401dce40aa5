pub mod Rebuilding
pub mod InnerTrace
