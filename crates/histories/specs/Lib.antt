pub mod Histories
pub mod Right
