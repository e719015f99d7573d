pub mod Lawful
pub mod Settling
