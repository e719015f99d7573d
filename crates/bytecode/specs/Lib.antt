pub mod Bad
pub mod Body
pub mod Numbers
pub mod Opcodes
pub mod Spelling
pub mod Switches
pub mod Targets
pub mod reading
