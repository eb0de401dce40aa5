pub mod Section3
pub mod Sections5And6
pub mod Section4
