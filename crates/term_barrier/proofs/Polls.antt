pub mod Reasons
pub mod AfterTurn
pub mod Ended
pub mod Flushed
pub mod Stands
