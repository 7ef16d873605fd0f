pub mod LastLetter
