pub mod Objects
pub mod Elements
pub mod Statics
pub mod Output
pub mod ClassWords
pub mod Owners
