pub mod Escapes
pub mod Pictures
pub mod Counts
pub mod Rows
pub mod Pages
