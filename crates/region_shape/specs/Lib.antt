pub mod Suits
pub mod Shapes
pub mod Counts
pub mod Texts
pub mod Sizes
pub mod Laws
pub mod Wholes
pub mod Regions
