pub mod Progress
pub mod Rounds
pub mod Threads
pub mod Rests
pub mod Starts
pub mod Slices
