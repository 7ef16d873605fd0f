pub mod GaveLine
pub mod ToCome
