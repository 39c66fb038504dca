pub mod Guessing
pub mod Keeping
pub mod Playing
pub mod Whole
