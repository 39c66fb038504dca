pub mod Marks
pub mod Pages
