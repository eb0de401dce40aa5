pub mod Sums
pub mod InnerZones
