pub mod BatchPut
pub mod EachRank
pub mod OnePut
