pub mod Grown
pub mod Kept
pub mod Turned
pub mod Sent
