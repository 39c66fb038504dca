pub mod Accepted
pub mod Texts
