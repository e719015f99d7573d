pub mod Lists
pub mod Patterns
pub mod Classes
pub mod Faults
pub mod steps
pub mod Demands
