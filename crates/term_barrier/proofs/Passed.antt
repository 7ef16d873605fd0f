pub mod FromWorld
pub mod NothingAfter
pub mod Folded
pub mod Silent
