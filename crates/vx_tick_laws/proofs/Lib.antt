mod Judged
mod MovedCells
mod ToldFates
mod ToldInOrder
