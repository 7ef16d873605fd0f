pub mod Counting
pub mod ItemCount
pub mod Shown
