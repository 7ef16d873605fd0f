pub mod LastAdded
