pub mod Laws
pub mod Default
pub mod Moved
