pub mod Rows
pub mod Reaches
pub mod Seen
pub mod Order
pub mod Components
pub mod Answer
pub mod steps
