pub mod Fresh
pub mod Honest
pub mod Kept
