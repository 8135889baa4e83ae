pub mod Work
pub mod Before
