pub mod Entry
pub mod Order
pub mod Index
pub mod InnerSteps
