pub mod Reading
pub mod Compared
pub mod InnerCursor
