pub mod Numbers
pub mod Check
pub mod InnerCheck
pub mod RuleWords
pub mod Bounds
