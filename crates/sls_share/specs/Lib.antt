pub mod Share
pub mod Carried
