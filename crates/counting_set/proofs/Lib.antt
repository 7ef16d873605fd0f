pub mod Counts
pub mod ItemCount
