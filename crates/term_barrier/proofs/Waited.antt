pub mod Polled
pub mod Kept
pub mod Counted
pub mod Outcomes
