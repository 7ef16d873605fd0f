pub mod Examples
pub mod FirstTooLong
pub mod RawLines
pub mod TextOf
