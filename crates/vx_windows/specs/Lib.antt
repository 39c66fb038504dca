pub mod Limits
pub mod Sectors
pub mod Writing
