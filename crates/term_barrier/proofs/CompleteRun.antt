pub mod FromAccounts
pub mod Arrived
pub mod BySender
pub mod Silent
