pub mod Settled
pub mod Laws
pub mod steps
pub mod Outcomes
pub mod Wholes
