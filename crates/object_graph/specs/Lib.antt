pub mod Images
pub mod Names
pub mod Reached
pub mod Idle
pub mod Cuts
pub mod steps
