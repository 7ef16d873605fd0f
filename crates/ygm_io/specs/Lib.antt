pub mod ByName
pub mod Content
pub mod Memory
pub mod Opens
pub mod Plan
pub mod Reads
pub use Rattle.rising_counts.specs.Rising
pub mod Writes
