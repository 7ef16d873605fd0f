pub mod OneMore
pub mod Polled
pub mod Read
pub mod Turned
