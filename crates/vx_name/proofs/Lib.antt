pub mod Errors
pub mod IdChanges
pub mod IdParts
pub mod NameLemmas
pub mod Spelling
