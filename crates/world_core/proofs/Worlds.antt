pub mod EachLog
pub mod Link
pub mod Refusal
