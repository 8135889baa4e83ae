pub mod Rows
pub mod Causes
pub mod Uses
pub mod Seen
pub mod Ranks
pub mod Transfers
pub mod Settings
