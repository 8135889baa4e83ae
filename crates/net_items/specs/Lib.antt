pub mod Keyed
pub mod Lookups
pub mod Vias
pub mod Classes
pub mod Links
