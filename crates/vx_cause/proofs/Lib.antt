pub mod Denials
pub mod Made
pub mod Plots
