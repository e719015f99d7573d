pub mod Judged
pub mod Waves
pub mod Finding
pub mod Tainting
pub mod WaveMembers
pub mod Crews
pub mod Plans
