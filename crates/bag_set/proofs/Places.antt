pub mod LastItem
