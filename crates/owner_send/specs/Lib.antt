pub mod Item
pub mod Sends
