pub mod Curves
pub mod Dot
pub mod Labels
pub mod Laws
pub mod Layout
pub mod Shown
pub mod Svg
pub mod Title
