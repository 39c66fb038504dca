pub mod Changing
pub mod Delays
pub mod Keeping
pub mod Nearby
pub mod Nexts
pub mod Reading
