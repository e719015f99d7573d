pub mod CommandLine
pub mod Files
pub mod Requests
pub mod steps
