pub mod AfterPut
pub mod BeforeCount
pub mod InOrder
pub mod NumbersRead
pub mod StaysFree
pub mod Stepwise
pub mod TrueCounts
