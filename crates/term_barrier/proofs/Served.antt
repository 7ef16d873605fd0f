pub mod Offspring
