pub mod GainsBoth
pub mod Keeps
pub mod Passed
pub mod Stuck
pub mod TakenFrom
pub mod TookBelow
pub mod Waiting
