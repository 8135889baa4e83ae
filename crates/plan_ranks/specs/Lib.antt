pub mod Ranks
pub mod Loops
pub mod Given
