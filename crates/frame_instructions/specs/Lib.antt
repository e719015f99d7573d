pub mod Arithmetic
pub mod Completion
pub mod OperandKinds
pub mod Rearranging
pub mod SwitchTargets
pub mod Families
pub mod Instructions
pub mod Laws
