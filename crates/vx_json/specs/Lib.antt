pub mod Commands
pub mod Laws
pub mod Objects
pub mod Plain
pub mod Records
pub mod Texts
