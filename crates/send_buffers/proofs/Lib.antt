pub mod Queued
pub mod Stored
