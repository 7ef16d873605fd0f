pub mod Between
pub mod ToForward
