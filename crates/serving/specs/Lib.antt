pub mod Seated
pub mod Sittings
pub mod Served
