pub mod Largest
pub mod Texts
pub mod steps
