pub mod Stamps
pub mod Adding
