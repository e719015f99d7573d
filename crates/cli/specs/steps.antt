pub mod Refusals
pub mod Builds
pub mod BuildTexts
pub mod Lists
pub mod Starts
pub mod Left
