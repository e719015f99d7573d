pub mod Builds
pub mod Refusals
pub mod Laws
pub mod steps
