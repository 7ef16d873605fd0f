pub mod Carrier
pub mod Found
pub mod OneLink
pub mod Rule
pub mod Seats
pub mod Words
