pub mod Kept
pub mod Members
pub mod Promises
pub mod Told
pub mod Following
pub mod Complaints
pub mod Routing
