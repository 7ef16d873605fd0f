pub mod Bags
pub mod Places
pub mod Sets
pub mod Shown
