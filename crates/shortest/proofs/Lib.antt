pub mod Laws
pub mod Bridge
pub mod Plain
pub mod Cut
pub mod Forms
pub mod Existence
pub mod Certificate
