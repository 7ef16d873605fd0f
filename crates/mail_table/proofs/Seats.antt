pub mod AsCalled
pub mod Between
pub mod Dealing
pub mod Gathering
pub mod Passes
