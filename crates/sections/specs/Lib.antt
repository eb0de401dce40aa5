pub mod Sections
pub mod Shown
pub mod Chosen
