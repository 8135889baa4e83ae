pub mod Numbers
pub mod Words
pub mod Kinds
pub mod Marked
pub mod Pieces
pub mod Rows
pub mod Entries
