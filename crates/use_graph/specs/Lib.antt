pub mod Code
pub mod Uses
pub mod Scopes
pub mod Soundness
pub mod steps
