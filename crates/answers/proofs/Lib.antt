pub mod Laws
mod Lent
pub mod Faults
pub mod Refusals
pub mod Cases
pub mod Fewest
pub mod Acceptance
pub mod Padding
pub mod Comparisons
pub mod AuditorsIndex
pub mod MergedIndexes
pub mod Written
pub mod Shortest
pub mod Outcomes
pub mod Examples
