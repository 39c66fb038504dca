pub mod Buffered
pub mod Lines
pub mod Reading
