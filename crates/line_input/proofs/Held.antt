pub mod IsTooLong
pub mod StartsWithLine
