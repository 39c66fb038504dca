pub mod Acting
pub mod Commands
pub mod Laws
pub mod SectorData
pub mod Slots
pub mod Texts
pub mod Windows
