pub mod Fates
pub mod Laws
pub mod Leaving
pub mod Pairing
pub mod Pieces
pub mod Starting
pub mod Ticks
