pub mod Reach
pub mod Places
pub mod Texts
pub mod Runs
pub mod Ends
pub mod steps
