pub mod Bits
pub mod InnerWindow
pub mod InnerRaised
