pub mod InLine
pub mod Checking
pub mod Headline
