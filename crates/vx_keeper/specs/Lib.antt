pub mod Busy
pub mod Keepers
pub mod Marks
pub mod Readiness
pub mod Torn
