pub mod AreLinks
pub mod Changed
