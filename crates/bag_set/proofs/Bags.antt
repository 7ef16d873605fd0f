pub mod Inserted
pub mod Turns
