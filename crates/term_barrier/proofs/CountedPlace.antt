pub mod Kept
pub mod Put
pub mod Polled
pub mod Left
