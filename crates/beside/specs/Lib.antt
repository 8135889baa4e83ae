pub mod Beside
pub mod Runs
pub mod Right
pub mod Synced
pub mod Told
pub mod Seats
