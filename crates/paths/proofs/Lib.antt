pub mod Compared
pub mod Optimal
pub mod Layer
