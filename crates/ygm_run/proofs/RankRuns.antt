pub mod Begun
pub mod Ended
pub mod First
pub mod Others
pub mod Stopped
pub mod Turned
