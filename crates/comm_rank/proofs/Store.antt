pub mod Added
pub mod Loses
pub mod Queued
pub mod SameStore
