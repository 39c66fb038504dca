pub mod Pairing
pub mod Filled
pub mod Admitting
pub mod Widening
pub mod Storing
pub mod Digits
pub mod Comparing
