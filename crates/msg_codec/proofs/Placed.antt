pub mod First
pub mod Held
pub mod Letters
pub mod Pushed
