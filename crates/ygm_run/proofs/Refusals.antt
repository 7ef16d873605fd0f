pub mod ByOrder
pub mod Holds
