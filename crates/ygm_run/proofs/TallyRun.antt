pub mod AllLines
pub mod OwnLetters
pub mod Run
pub mod Shards
pub mod Tests
