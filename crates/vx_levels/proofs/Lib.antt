pub mod Adding
pub mod Agreeing
pub mod Keeping
pub mod Mending
pub mod Packing
