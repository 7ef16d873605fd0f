pub mod Held
pub mod Limits
pub mod Lines
pub mod Reading
pub mod Runs
pub mod Taken
pub mod Turns
pub mod Why
