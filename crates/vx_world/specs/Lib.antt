pub mod Numbered
pub mod Openings
pub mod Reserves
pub mod Settlements
pub mod Ticks
