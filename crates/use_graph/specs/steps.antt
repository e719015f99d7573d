pub mod Numbers
pub mod Deeds
pub mod LeftOut
pub mod CallGraphs
pub mod Growing
pub mod Bodies
pub mod Searching
