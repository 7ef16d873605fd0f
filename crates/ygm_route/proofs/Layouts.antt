pub mod AreRanks
pub mod RankAt
