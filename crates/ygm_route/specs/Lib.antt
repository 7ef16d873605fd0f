pub mod Layout
pub mod Hop
pub mod Path
