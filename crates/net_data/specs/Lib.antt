pub mod Network
pub mod Valid
pub mod Edits
pub mod Kinds
