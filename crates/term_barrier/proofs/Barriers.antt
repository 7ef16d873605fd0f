pub mod Agrees
pub mod Handed
pub mod Knows
pub mod Leaving
pub mod Room
pub mod Rounds
