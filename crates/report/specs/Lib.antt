pub mod Texts
pub mod Waves
