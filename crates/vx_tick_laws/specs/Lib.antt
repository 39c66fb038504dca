pub mod Judged
pub mod MovedCells
pub mod ToldFates
