pub mod Joined
pub mod Arrivals
pub mod Quiet
