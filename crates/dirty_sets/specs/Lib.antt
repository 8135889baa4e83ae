pub mod Touch
pub mod Marks
pub mod Waiting
pub mod Entries
pub mod Bits
pub mod Index
pub mod Kept
pub mod Touched
