pub mod Blocks
pub mod Errors
pub mod Sessions
pub mod Spread
pub mod Traces
