pub mod Grown
pub mod Same
pub mod Outside
pub mod Turned
pub mod Polled
pub mod Passed
