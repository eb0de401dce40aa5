pub mod Structures
pub mod Default
pub mod Section2
