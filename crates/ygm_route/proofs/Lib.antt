pub mod Hop
pub mod Layouts
pub mod Path
