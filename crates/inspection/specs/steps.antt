pub mod Best
pub mod Completes
