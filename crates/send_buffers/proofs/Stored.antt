pub mod EachChanged
pub mod OneChanged
