pub mod Alphabet
pub mod IdParts
pub mod IdUpdates
pub mod Ids
pub mod Laws
pub mod Names
pub mod Texts
pub mod Words
