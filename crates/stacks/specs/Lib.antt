pub mod Stacks
pub mod steps
