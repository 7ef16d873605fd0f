pub mod AllTaken
pub mod FullFile
