pub mod Excerpt
pub mod Index
pub mod Around
pub mod Turned
pub mod Intact
