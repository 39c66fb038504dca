pub mod Bytes
pub mod Lists
pub mod Named
pub mod Parts
pub mod Signed
