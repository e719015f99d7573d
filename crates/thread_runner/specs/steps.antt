pub mod Ends
pub mod Alone
pub mod Advances
pub mod Asked
pub mod Blanks
pub mod Verdicts
pub mod Landings
