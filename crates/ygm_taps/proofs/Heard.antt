pub mod EachLetter
