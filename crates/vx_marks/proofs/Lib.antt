pub mod Marking
pub mod Paging
pub mod WordBits
