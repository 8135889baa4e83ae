pub mod Availability
pub mod Neighbours
