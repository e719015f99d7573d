pub mod Distinct
pub mod steps
