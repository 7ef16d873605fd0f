pub mod AtRound
pub mod BarrierStart
pub mod Stepwise
