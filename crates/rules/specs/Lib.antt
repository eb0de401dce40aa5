pub mod LeadRules
pub mod Rows
