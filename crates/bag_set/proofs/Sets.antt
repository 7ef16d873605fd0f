pub mod Distinct
pub mod Has
pub mod Keys
pub mod LastLetter
