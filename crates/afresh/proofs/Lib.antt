pub mod Filed
pub mod Afresh
pub mod Runs
