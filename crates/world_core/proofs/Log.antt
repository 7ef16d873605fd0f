pub mod Appended
pub mod AtEntry
pub mod ByLink
