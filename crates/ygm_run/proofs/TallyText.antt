pub mod DistinctItems
pub mod Examples
pub mod Shards
pub mod Table
pub mod Times
