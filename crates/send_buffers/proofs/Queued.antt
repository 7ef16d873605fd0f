pub mod Counts
pub mod Flushed
pub mod InPlace
pub mod Order
pub mod Queues
pub mod Routed
pub mod Steps
