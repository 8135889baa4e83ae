pub mod Places
pub mod Tables
pub mod Records
pub mod Values
pub mod About
pub mod Events
pub mod Faults
