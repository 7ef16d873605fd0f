pub mod SameSums
pub mod Known
pub mod OneRound
pub mod Earlier
pub mod Grown
pub mod QuietCuts
pub mod Since
