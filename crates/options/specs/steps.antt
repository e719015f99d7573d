pub mod Texts
pub mod Flags
pub mod Names
pub mod Covering
pub mod Unmet
