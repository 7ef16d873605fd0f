pub mod Body
pub mod Examples
pub mod Found
pub mod Letters
