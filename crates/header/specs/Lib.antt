pub mod Fields
pub mod Header
