pub mod Adds
pub mod Finishing
pub mod Reverse
pub mod Numbering
pub mod Descending
pub mod Flags
