pub mod Afresh
pub mod Runs
