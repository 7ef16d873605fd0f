pub mod Bytes
pub mod Controls
pub mod Placed
pub mod Reading
pub mod Spelling
