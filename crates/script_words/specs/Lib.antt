pub mod Events
pub mod Wholes
pub mod EventWords
pub mod Numbers
pub mod Commands
pub mod Forms
