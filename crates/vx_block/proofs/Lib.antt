pub mod Cells
pub mod Colons
pub mod Counts
pub mod KindWords
pub mod Parts
