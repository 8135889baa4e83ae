pub mod Building
pub mod Wholes
