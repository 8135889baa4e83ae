pub mod Desk
pub mod Steps
pub mod Targets
pub mod Inside
pub mod Runs
