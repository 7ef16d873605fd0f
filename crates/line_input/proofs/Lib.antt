pub mod Held
pub mod Lines
mod Runs
pub mod Taken
pub mod Turns
