mod ByName
mod Content
mod KnownBytes
