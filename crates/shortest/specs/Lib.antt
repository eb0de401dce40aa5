pub mod Shortest
pub mod InnerRule
