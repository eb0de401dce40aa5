pub mod Laws
pub mod Served
pub mod Settling
pub mod Choices
pub mod OneLayer
pub mod Layers
pub mod Ranges
