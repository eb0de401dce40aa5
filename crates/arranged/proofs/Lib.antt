pub mod Order
pub mod Parts
pub mod Ordered
pub mod Arranging
pub mod LookedUp
