pub mod Adds
pub mod Flags
