pub mod Described
pub mod Faults
