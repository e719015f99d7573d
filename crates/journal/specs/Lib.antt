pub mod Journals
pub mod steps
