pub mod Readings
pub mod Starts
pub mod steps
