pub mod Reports
pub mod Reroutes
pub mod Mending
pub mod Listed
pub mod Survey
pub mod Warnings
