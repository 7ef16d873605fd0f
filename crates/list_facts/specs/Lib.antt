pub mod Below
pub mod Prefix
pub mod Sublist
pub mod Sums
