pub mod Before
pub mod InnerPaths
