pub mod AllRead
pub mod AreRests
pub mod GoodLines
pub mod IsRead
pub mod IsRest
pub mod TallyWrong
