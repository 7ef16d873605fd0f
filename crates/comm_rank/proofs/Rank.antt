pub mod RanAt
pub mod RanFrom
pub mod Same
pub mod Sent
pub mod SentCount
