pub mod Titles
pub mod Names
pub mod Written
