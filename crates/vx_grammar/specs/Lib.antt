pub mod EditLines
pub mod Numbers
pub mod Readings
pub mod ScriptLines
pub mod Words
