pub mod Complete
pub mod Follows
pub mod Opened
pub mod Reported
pub mod Stages
