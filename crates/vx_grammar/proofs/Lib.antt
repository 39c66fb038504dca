pub mod Cuts
pub mod Points
pub mod Printables
pub mod Spelled
