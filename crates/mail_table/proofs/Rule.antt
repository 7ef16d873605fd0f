pub mod OneRank
pub mod OtherLinks
pub mod Passes
pub mod Puts
pub mod StopWord
pub mod Stops
pub mod Takes
pub mod Worlds
