pub mod Examples
pub mod Demands
pub mod Padding
pub mod Comparisons
pub mod AuditorsIndex
pub mod MergedIndexes
