pub mod Outcomes
pub mod Settleable
pub mod steps
