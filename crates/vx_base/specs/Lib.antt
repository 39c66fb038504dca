pub mod Digits
pub mod Parts
pub mod Ranges
pub mod Then
pub mod Unread
