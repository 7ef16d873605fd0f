pub mod AfterPut
pub mod EachEvent
pub mod FewSent
pub mod FromHonest
pub mod InTurn
pub mod Lawful
