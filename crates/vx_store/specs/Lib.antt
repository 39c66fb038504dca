pub mod ChestParts
pub mod Chests
pub mod Codes
pub mod MachineMarks
pub mod MarkedPlaces
pub mod Placing
pub mod SameSlots
