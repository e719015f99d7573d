pub mod ClassNames
pub mod Keys
pub mod Methods
pub mod Subclasses
