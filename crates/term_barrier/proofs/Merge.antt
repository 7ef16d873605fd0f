pub mod Joined
pub mod InOrder
