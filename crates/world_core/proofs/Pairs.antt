pub mod Appended
pub mod ByPair
pub mod Numbers
pub mod OfPair
pub mod Stepwise
pub mod Unchanged
