pub mod Within
pub mod Builds
pub mod BuildTables
pub mod Steps
pub mod Courses
