pub mod Buffers
pub mod Calls
pub mod Laws
pub mod Limits
pub mod Stored
