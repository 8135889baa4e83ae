pub mod Faults
pub mod Keys
pub mod Entries
pub mod Reading
