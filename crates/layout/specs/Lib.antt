pub mod Layout
pub mod InnerCounts
pub mod InnerHeader
pub mod InnerPointers
pub mod InnerLeads
